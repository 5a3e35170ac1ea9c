-- Frames that a checker takes from the front of bytes.
use Rattle.std.proofs.Common.{◌≡◌, ℕ, ◌+◌, ◌-◌, ◌<◌, ◌≤◌, List, [], ◌∷◌, ◌++◌, length, take, drop, set, Option}
use Rattle.std.proofs.Common.{Some, refl, sym, ap, subst, append_assoc, inl, inr, ◌∙◌, arith}
use Rattle.std.specs.List.{flat_map}
use Rattle.std.proofs.lemmas.Grind.{flat_map-append}
use Rattle.std.proofs.lemmas.List.{append-nil, drop_all, length-append, length-take, take-append-drop}
use Rattle.std.proofs.lemmas.List.Elements.{All-append, All-nil, All-cons}
use Rattle.std.proofs.lemmas.List.Sums.{fold-append}
use Rattle.std.proofs.Math.Seq.{drop-append_seam}
use Rattle.migration_model.specs.Trace.{GuestTrace}
use Rattle.migration_model.specs.Frames.{GuestShape, PageFrame, IsFrame, SpellsFrame, frame_text}
use Rattle.migration_model.specs.Final.{shape_of_trace}
use Rattle.migration_model.proofs.Frames.{length-frame_text}
use Rattle.page_message.specs.Refusals.{frame_refusal}
use Rattle.page_message.specs.declared.error.FrameError.{FrameError}
use Rattle.page_message.specs.declared.error.FrameError.TheVariants.{Short}
use Rattle.stream_check.specs.Stamps.{stamp_of, greater, keep_last, keep_greatest, last_stamps, greatest_stamps}
use Rattle.stream_check.specs.Faults.{IsRight, AreRight, BeginsRight, IsFault, IsWrongFront, refused_for}
use Rattle.stream_check.specs.Checked.{Checked, checked_with, after_frames, after_stream, TakesRight, TakesAll}
use Rattle.stream_check.specs.Checked.{StopsAt}
use Rattle.stream_check.specs.declared.taken.Taken.{Taken}
use Rattle.stream_check.specs.declared.faults.WrongFrame.{WrongFrame}
use Rattle.stream_check.specs.declared.faults.FrameCause.{FrameCause}
use Rattle.stream_check.specs.declared.faults.FrameFault.{FrameFault}
use Rattle.stream_check.specs.declared.faults.FrameCause.TheVariants.{Refused}

-- a frame has some bytes
pub some_size : (shape : GuestShape) (bytes : List ℕ) (size : ℕ) (frame : PageFrame)
    → SpellsFrame shape (take size bytes) frame → 1 ≤ size
some_size shape bytes size frame spells = omega (
  arith,
  ap length spells.text,
  length-take size bytes,
  length-frame_text frame,
)

AreRight-append : (trace : GuestTrace) (stop : ℕ) (last : List (Option ℕ)) (fs gs : List PageFrame)
    → AreRight trace stop last fs → AreRight trace stop (last_stamps last fs) gs → AreRight trace stop last (fs ++ gs)
AreRight-append trace stop last [] gs first second = second
AreRight-append trace stop last (f ∷ fs) gs first second = (
  first.0,
  AreRight-append trace stop (keep_last last f) fs gs first.1 second,
)

pub Takes-nothing : (trace : GuestTrace) (checked : Checked) (bytes : List ℕ)
    → TakesRight trace checked checked bytes 0 bytes
Takes-nothing trace checked bytes = record {
  frames = [];
  count_is = refl;
  begins = record { are_frames = All-nil (IsFrame (shape_of_trace trace)); right = tt; text = refl };
  after = refl;
}

pub Takes-one : (trace : GuestTrace) (old new : Checked) (bytes : List ℕ) (size : ℕ) (frame : PageFrame)
    → SpellsFrame (shape_of_trace trace) (take size bytes) frame
    → IsRight trace old.stop (stamp_of old.last frame.page) frame
    → new ≡ checked_with old.shape old.stop (set old.last frame.page (Some frame.stamp))
    (set old.greatest frame.page (Some (greater (stamp_of old.greatest frame.page) frame.stamp)))
    → TakesRight trace old new bytes 1 (drop size bytes)
Takes-one trace old new bytes size frame spells right is = record {
  frames = frame ∷ [];
  count_is = refl;
  begins = record {
    are_frames = All-cons (IsFrame (shape_of_trace trace)) frame [] spells.is_frame
        (All-nil (IsFrame (shape_of_trace trace)));
    right = (right, tt);
    text = sym (take-append-drop size bytes) ∙ ap (λ (x : List ℕ). x ++ drop size bytes)
        (spells.text ∙ sym (append-nil (frame_text frame)));
  };
  after = is;
}

-- the same, from numbers that are those of the frame and of the state
pub Takes-front : (trace : GuestTrace) (old new : Checked) (bytes : List ℕ) (size : ℕ) (frame : PageFrame)
    (page stamp stop : ℕ) (last : Option ℕ) → SpellsFrame (shape_of_trace trace) (take size bytes) frame
    → IsRight trace stop last frame → stop ≡ old.stop → last ≡ stamp_of old.last frame.page → page ≡ frame.page
    → stamp ≡ frame.stamp
    → new ≡ checked_with old.shape old.stop (set old.last page (Some stamp))
    (set old.greatest page (Some (greater (stamp_of old.greatest page) stamp)))
    → TakesRight trace old new bytes 1 (drop size bytes)
Takes-front trace old new bytes size frame page stamp stop last spells right stop_is last_is page_is stamp_is is =
    Takes-one trace old new bytes size frame spells
    (subst (λ (s : ℕ). IsRight trace s (stamp_of old.last frame.page) frame) stop_is
    (subst (λ (l : Option ℕ). IsRight trace stop l frame) last_is right))
    (is
    ∙ ap (λ (p : ℕ). checked_with old.shape old.stop (set old.last p (Some stamp))
    (set old.greatest p (Some (greater (stamp_of old.greatest p) stamp)))) page_is
    ∙ ap (λ (s : ℕ). checked_with old.shape old.stop (set old.last frame.page (Some s))
    (set old.greatest frame.page (Some (greater (stamp_of old.greatest frame.page) s)))) stamp_is)

-- some frames, and behind them others, if more bytes came meanwhile
pub Takes-both : (trace : GuestTrace) (old mid new : Checked) (bytes rest more behind : List ℕ) (m n : ℕ)
    → TakesRight trace old mid bytes m rest → TakesRight trace mid new (rest ++ more) n behind
    → TakesRight trace old new (bytes ++ more) (m + n) behind
Takes-both trace old mid new bytes rest more behind m n a b =
    let fs : List PageFrame = a.frames in
    let gs : List PageFrame = b.frames in
    record {
      frames = fs ++ gs;
      count_is = omega (arith, length-append a.frames b.frames, a.count_is, b.count_is);
      begins = record {
        are_frames = All-append (IsFrame (shape_of_trace trace)) fs gs a.begins.are_frames b.begins.are_frames;
        right = AreRight-append trace old.stop old.last fs gs a.begins.right
            (subst (λ (c : Checked). AreRight trace c.stop c.last gs) a.after b.begins.right);
        text = ap (λ (x : List ℕ). x ++ more) a.begins.text ∙ append_assoc (flat_map frame_text fs) rest more
            ∙ ap (λ (x : List ℕ). flat_map frame_text fs ++ x) b.begins.text
            ∙ sym (append_assoc (flat_map frame_text fs) (flat_map frame_text gs) behind)
            ∙ ap (λ (x : List ℕ). x ++ behind) (sym (flat_map-append frame_text fs gs));
      };
      after = b.after ∙ ap (λ (c : Checked). after_frames c gs) a.after
          ∙ ap (λ (s : List (Option ℕ)). checked_with old.shape old.stop s
          (greatest_stamps (greatest_stamps old.greatest fs) gs)) (sym (fold-append keep_last old.last fs gs))
          ∙ ap (λ (s : List (Option ℕ)). checked_with old.shape old.stop (last_stamps old.last (fs ++ gs)) s)
          (sym (fold-append keep_greatest old.greatest fs gs));
    }

pub Takes-more : (trace : GuestTrace) (old mid new : Checked) (bytes rest behind : List ℕ) (count : ℕ)
    → TakesRight trace old mid bytes count rest → TakesRight trace mid new rest 1 behind
    → TakesRight trace old new bytes (count + 1) behind
Takes-more trace old mid new bytes rest behind count a b =
    subst (λ (x : List ℕ). TakesRight trace old new x (count + 1) behind) (append-nil bytes)
    (Takes-both trace old mid new bytes rest [] behind count 1 a
    (subst (λ (x : List ℕ). TakesRight trace mid new x 1 behind) (sym (append-nil rest)) b))

pub stop_taken : (trace : GuestTrace) (old new : Checked) (bytes rest : List ℕ) (count : ℕ)
    → TakesRight trace old new bytes count rest → new.stop ≡ old.stop
stop_taken trace old new bytes rest count takes = ap (λ (c : Checked). c.stop) takes.after

pub shape_taken : (trace : GuestTrace) (old new : Checked) (bytes rest : List ℕ) (count : ℕ)
    → TakesRight trace old new bytes count rest → new.shape ≡ old.shape
shape_taken trace old new bytes rest count takes = ap (λ (c : Checked). c.shape) takes.after

-- where the rest begins
rest_is : (trace : GuestTrace) (old new : Checked) (bytes rest : List ℕ) (count offset : ℕ)
    → TakesRight trace old new bytes count rest → offset ≡ length bytes - length rest
    → (drop offset bytes ≡ rest) × (offset ≤ length bytes)
rest_is trace old new bytes rest count offset takes is =
    let front : List ℕ = flat_map frame_text takes.frames in
    let at : offset ≡ length front = omega (arith, is, ap length takes.begins.text, length-append front rest) in (
      ap (λ (n : ℕ). drop n bytes) at ∙ ap (drop (length front)) takes.begins.text ∙ drop-append_seam front rest,
      omega (arith, is),
    )

pub takes_all : (trace : GuestTrace) (old new : Checked) (bytes rest : List ℕ) (taken : Taken)
    → TakesRight trace old new bytes taken.frames rest → taken.bytes ≡ length bytes - length rest
    → frame_refusal (shape_of_trace trace) rest ≡ Some Short → TakesAll trace old new bytes taken
takes_all trace old new bytes rest taken takes is part =
    let at = rest_is trace old new bytes rest taken.frames taken.bytes takes is in
    record {
      takes = subst (λ (r : List ℕ). TakesRight trace old new bytes taken.frames r) (sym at.0) takes;
      within = at.1;
      part = ap (frame_refusal (shape_of_trace trace)) at.0 ∙ part;
    }

-- nothing behind the last frame is no whole frame
pub nothing_left : (shape : GuestShape) (rest : List ℕ) → length rest ≡ 0 → frame_refusal shape rest ≡ Some Short
nothing_left shape [] none = refl
nothing_left shape (b ∷ rest) none = absurd (omega (arith, none))

same_cause : (e : FrameError) (cause : FrameCause) → cause ≡ Refused e → cause ≡ Refused Short → e ≡ Short
same_cause e cause is short = cc (is, short)

-- a front that is refused as too short
pub short_front : (trace : GuestTrace) (stop : ℕ) (last : List (Option ℕ)) (rest : List ℕ) (fault : FrameFault)
    → IsWrongFront trace stop last rest fault → fault.cause ≡ Refused Short
    → frame_refusal (shape_of_trace trace) rest ≡ Some Short
short_front trace stop last rest fault wrong part = elim wrong [
  | inl refused ↦ refused.2 ∙ ap (λ (e : FrameError). Some e) (same_cause refused.0 fault.cause
      (ap (λ (f : FrameFault). f.cause) refused.1) part)
  | inr begins ↦ absurd (subst (λ (c : FrameCause). IsFault trace stop (stamp_of last begins.frame.page) begins.frame c
      fault.wanted) part begins.wrong)
]

pub stops_at : (trace : GuestTrace) (old new : Checked) (bytes rest : List ℕ) (number offset : ℕ)
    (fault : FrameFault) (found : WrongFrame)
    → TakesRight trace old new bytes number rest → offset ≡ length bytes - length rest → 1 ≤ length rest
    → IsWrongFront trace new.stop new.last rest fault → found.number ≡ number → found.offset ≡ offset
    → found.fault ≡ fault → StopsAt trace old new bytes found
stops_at trace old new bytes rest number offset fault found takes is some wrong number_is offset_is fault_is =
    let begins = rest_is trace old new bytes rest number found.offset takes (offset_is ∙ is) in
    let front : List ℕ = flat_map frame_text takes.frames in
    record {
      first = record {
        frames = takes.frames;
        number = takes.count_is ∙ sym number_is;
        begins = subst (λ (r : List ℕ). BeginsRight trace old.stop old.last bytes takes.frames r) (sym begins.0)
            takes.begins;
        within = omega (arith, is, offset_is, some, ap length takes.begins.text, length-append front rest);
        wrong = subst (λ (r : List ℕ). IsWrongFront trace old.stop (last_stamps old.last takes.frames) r found.fault)
            (sym begins.0) (subst (λ (f : FrameFault). IsWrongFront trace old.stop
            (last_stamps old.last takes.frames) rest f)
            (sym fault_is) (subst (λ (c : Checked). IsWrongFront trace c.stop c.last rest fault) takes.after wrong));
      };
      after = takes.after;
    }

-- ---- the last bytes of a stream

pub last_taken : (trace : GuestTrace) (old mid new : Checked) (bytes : List ℕ) (taken : Taken)
    → TakesAll trace old mid bytes taken → length bytes ≤ taken.bytes → new ≡ after_stream mid
    → (frames : List PageFrame) × BeginsRight trace old.stop old.last bytes frames []
    × (new ≡ after_stream (after_frames old frames))
last_taken trace old mid new bytes taken all whole is = (
  all.takes.frames,
  subst (BeginsRight trace old.stop old.last bytes all.takes.frames) (drop_all taken.bytes bytes whole)
      all.takes.begins,
  is ∙ ap after_stream all.takes.after,
)

pub cut_wrong : (trace : GuestTrace) (old mid : Checked) (bytes : List ℕ) (taken : Taken) (found : WrongFrame)
    → TakesAll trace old mid bytes taken → taken.bytes < length bytes → found.number ≡ taken.frames
    → found.offset ≡ taken.bytes → found.fault ≡ refused_for Short
    → StopsAt trace old mid bytes found
cut_wrong trace old mid bytes taken found all cut number offset cause =
    let rest : drop taken.bytes bytes ≡ drop found.offset bytes = ap (λ (n : ℕ). drop n bytes) (sym offset) in
    record {
      first = record {
        frames = all.takes.frames;
        number = all.takes.count_is ∙ sym number;
        begins = subst (BeginsRight trace old.stop old.last bytes all.takes.frames) rest all.takes.begins;
        within = omega (arith, cut, offset);
        wrong = inl (Short, cause, ap (frame_refusal (shape_of_trace trace)) (sym rest) ∙ all.part);
      };
      after = all.takes.after;
    }
