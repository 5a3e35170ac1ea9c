-- Frames that were taken from bytes.
use Rattle.std.proofs.Common.{◌≡◌, ℕ, ◌+◌, ◌<◌, ◌≤◌, List, [], ◌∷◌, ◌++◌, length, take, drop, Result, Ok, Err, IfOk}
use Rattle.std.proofs.Common.{IfErr, MatchResult, refl, sym, ap, ◌∙◌, subst, append_assoc, inl, inr, arith}
use Rattle.std.specs.List.{All, flat_map}
use Rattle.std.proofs.lemmas.Grind.{flat_map-append}
use Rattle.std.proofs.lemmas.List.{append-nil, length-append, length-take, take-append-drop}
use Rattle.std.proofs.lemmas.List.Elements.{All-append, All-nil, All-cons, All-head, All-tail}
use Rattle.std.proofs.lemmas.List.Sums.{fold-append}
use Rattle.migration_model.specs.Frames.{GuestShape, IsGuestShape, PageFrame, IsFrame, frame_text, SpellsFrame}
use Rattle.migration_model.specs.Frames.{SpellsStream}
use Rattle.migration_model.specs.Parts.{GuestPart, with_frame, with_frames}
use Rattle.migration_model.proofs.Frames.{same_front, one_stream_lem, length-frame_text}
use Rattle.page_message.proofs.Found.{never_refused}
use Rattle.page_message.specs.Refusals.{RefusesFrame}
use Rattle.page_message.specs.declared.error.FrameError.{FrameError}
use Rattle.page_message.specs.declared.error.FrameError.TheVariants.{Memory}
use Rattle.collector.specs.Streams.{TakesFrames, RefusesStream}

pub shape-with_frames : (part : GuestPart) (frames : List PageFrame) → (with_frames part frames).shape ≡ part.shape
shape-with_frames part [] = refl
shape-with_frames part (frame ∷ frames) = shape-with_frames (with_frame part frame) frames

pub shape-taken : (old new : GuestPart) (bytes : List ℕ) (count : ℕ) (rest : List ℕ)
    → TakesFrames old new bytes count rest → new.shape ≡ old.shape
shape-taken old new bytes count rest takes = ap (λ (p : GuestPart). p.shape) takes.part
    ∙ shape-with_frames old takes.frames

-- a frame has some bytes
pub some_size : (shape : GuestShape) (bytes : List ℕ) (size : ℕ) (frame : PageFrame)
    → SpellsFrame shape (take size bytes) frame → 1 ≤ size
some_size shape bytes size frame spells = omega (
  arith,
  ap length spells.text,
  length-take size bytes,
  length-frame_text frame,
)

pub Takes-nothing : (part : GuestPart) (bytes : List ℕ) → TakesFrames part part bytes 0 bytes
Takes-nothing part bytes = record {
  frames = [];
  count_is = refl;
  are_frames = All-nil (IsFrame part.shape);
  text =
      refl;
  part = refl;
}

pub Takes-one : (old new : GuestPart) (bytes : List ℕ) (size : ℕ) (frame : PageFrame)
    → SpellsFrame old.shape (take size bytes) frame → new ≡ with_frame old frame
    → TakesFrames old new bytes 1 (drop size bytes)
Takes-one old new bytes size frame spells is =
    record {
      frames = frame ∷ [];
      count_is = refl;
      are_frames = All-cons (IsFrame old.shape) frame [] spells.is_frame (All-nil (IsFrame old.shape));
      text = sym (take-append-drop size bytes) ∙ ap (λ (x : List ℕ). x ++ drop size bytes)
          (spells.text ∙ sym (append-nil (frame_text frame)));
      part = is;
    }

pub Takes-more : (old mid new : GuestPart) (bytes rest behind : List ℕ) (count : ℕ)
    → TakesFrames old mid bytes count rest → TakesFrames mid new rest 1 behind
    → TakesFrames old new bytes (count + 1) behind
Takes-more old mid new bytes rest behind count a b =
    let shape : mid.shape ≡ old.shape = ap (λ (p : GuestPart). p.shape) a.part ∙ shape-with_frames old a.frames in
    record {
      frames = a.frames ++ b.frames;
      count_is = omega (arith, length-append a.frames b.frames, a.count_is, b.count_is);
      are_frames = All-append (IsFrame old.shape) a.frames b.frames a.are_frames
          (subst (λ (s : GuestShape). All (IsFrame s) b.frames) shape b.are_frames);
      text = a.text ∙ ap (λ (x : List ℕ). flat_map frame_text a.frames ++ x) b.text
          ∙ sym (append_assoc (flat_map frame_text a.frames) (flat_map frame_text b.frames) behind)
          ∙ ap (λ (x : List ℕ). x ++ behind) (sym (flat_map-append frame_text a.frames b.frames));
      part = b.part ∙ ap (λ (p : GuestPart). with_frames p b.frames) a.part
          ∙ sym (fold-append with_frame old a.frames b.frames);
    }

-- a frame that is refused, or for which memory ran out
pub stopped : (old new : GuestPart) (bytes rest : List ℕ) (count : ℕ) (e : FrameError)
    → TakesFrames old new bytes count rest → 0 < length rest → RefusesFrame old.shape rest e
    → RefusesStream old new bytes (count, e)
stopped old new bytes rest count e takes some (inl lacks) =
    inl (lacks.0, record { rest = rest; takes = takes; accepted = lacks.1 })
stopped old new bytes rest count e takes some (inr cause) =
    inr (record { rest = rest; takes = takes; some = some; refused = cause })

-- frames at the front of a stream are its first ones, and the others follow
front_frames : (shape : GuestShape) (fs gs : List PageFrame) (rest : List ℕ) → IsGuestShape shape
    → All (IsFrame shape) fs → All (IsFrame shape) gs → 0 < length rest
    → flat_map frame_text fs ++ rest ≡ flat_map frame_text gs
    → (g : PageFrame) × (others : List PageFrame) × IsFrame shape g
    × (rest ≡ frame_text g ++ flat_map frame_text others)
front_frames shape [] [] rest is fits_f fits_g some same = absurd (omega (arith, ap length same))
front_frames shape [] (g ∷ gs) rest is fits_f fits_g some same = (g, gs, All-head (IsFrame shape) g gs fits_g, same)
front_frames shape (f ∷ fs) [] rest is fits_f fits_g some same =
    absurd (omega (arith, ap length same, length-append (frame_text f ++ flat_map frame_text fs) rest))
front_frames shape (f ∷ fs) (g ∷ gs) rest is fits_f fits_g some same =
    let grouped : frame_text f ++ (flat_map frame_text fs ++ rest) ≡ frame_text g ++ flat_map frame_text gs =
    sym (append_assoc (frame_text f) (flat_map frame_text fs) rest) ∙ same in
    let front = same_front shape f g (flat_map frame_text fs ++ rest) (flat_map frame_text gs) is
    (All-head (IsFrame shape) f fs fits_f) (All-head (IsFrame shape) g gs fits_g) grouped in
    front_frames shape fs gs rest is (All-tail (IsFrame shape) f fs fits_f) (All-tail (IsFrame shape) g gs fits_g) some
    front.1

-- so all of a stream is taken, unless memory runs out
pub takes_only : (old new : GuestPart) (bytes : List ℕ) (r : Result ℕ (ℕ × FrameError)) → IsGuestShape old.shape
    → IfOk r (λ count. TakesFrames old new bytes count []) → IfErr r (RefusesStream old new bytes)
    → (frames : List PageFrame) → SpellsStream old.shape bytes frames
    → MatchResult r (λ count. (count ≡ length frames) × (new ≡ with_frames old frames)) (λ e. e.1 ≡ Memory)
takes_only old new bytes (Ok count) is taken refused frames spells =
    let same : taken.frames ≡ frames =
    one_stream_lem old.shape taken.frames frames is taken.are_frames spells.are_frames
    (sym (append-nil (flat_map frame_text taken.frames)) ∙ sym taken.text ∙ spells.text) in
    (sym taken.count_is ∙ ap length same, taken.part ∙ ap (λ (fs : List PageFrame). with_frames old fs) same)
takes_only old new bytes (Err e) is taken (inl lacks) frames spells = lacks.0
takes_only old new bytes (Err e) is taken (inr stops) frames spells =
    let takes = stops.takes in
    let next = front_frames old.shape takes.frames frames stops.rest is takes.are_frames spells.are_frames stops.some
    (sym takes.text ∙ spells.text) in
    absurd (cc (
      stops.refused,
      never_refused old.shape stops.rest (flat_map frame_text next.1) next.0 is next.2 next.3,
    ))
