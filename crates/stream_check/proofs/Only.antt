-- Streams in which all is right have nothing that is wrong.
use Rattle.std.proofs.Common.{◌≡◌, ◌≢◌, ℕ, ◌<◌, ◌≤◌, List, [], ◌∷◌, ◌++◌, length, drop, Option, Some, None}
use Rattle.std.proofs.Common.{IfSome, inl, inr, refl, sym, ap, subst, append_assoc, ◌∙◌, arith}
use Rattle.std.specs.List.{All, flat_map}
use Rattle.std.proofs.lemmas.List.{length-append, length-drop, take-append-drop}
use Rattle.std.proofs.lemmas.List.Elements.{All-head, All-tail}
use Rattle.std.proofs.lemmas.Option.{same_Some}
use Rattle.migration_model.specs.Trace.{GuestTrace, IsTrace}
use Rattle.migration_model.specs.Frames.{GuestShape, IsGuestShape, PageFrame, IsFrame, frame_text}
use Rattle.migration_model.specs.Final.{shape_of_trace}
use Rattle.migration_model.proofs.Frames.{same_front, one_stream_lem}
use Rattle.page_message.proofs.Found.{never_refused}
use Rattle.page_message.specs.Refusals.{frame_refusal}
use Rattle.page_message.specs.declared.error.FrameError.{FrameError}
use Rattle.page_message.specs.declared.error.FrameError.TheVariants.{Short}
use Rattle.stream_check.specs.Checked.{Checked, StopsAt, TakesAll}
use Rattle.stream_check.specs.Stamps.{no_stamps, stamp_of, keep_last, last_stamps, greatest_stamps}
use Rattle.stream_check.specs.Faults.{IsRight, AreRight, IsFault, IsWrongFront, IsFirstWrong}
use Rattle.stream_check.specs.Ends.{AreCurrentStamps}
use Rattle.stream_check.specs.Receivers.{all_frames}
use Rattle.stream_check.specs.Streams.{IsAllRight, IsFirstThing, texts_of}
use Rattle.stream_check.specs.declared.error.StreamsError.{StreamsError}
use Rattle.stream_check.specs.declared.error.StreamsError.TheVariants.{Memory, Frame, Page}
use Rattle.stream_check.specs.declared.faults.FrameCause.{FrameCause}
use Rattle.stream_check.specs.declared.faults.FrameCause.TheVariants.{Refused, NoVersion, AfterStop, Older, Bytes}
use Rattle.stream_check.specs.declared.faults.FrameFault.{FrameFault}
use Rattle.stream_check.specs.declared.faults.WrongFrame.{WrongFrame}
use Rattle.stream_check.specs.declared.taken.Taken.{Taken}

pub shape_is : (trace : GuestTrace) → IsTrace trace → IsGuestShape (shape_of_trace trace)
shape_is trace is = record { size = is.size; few = is.count }

abbrev pub text_of_frames : List PageFrame → List ℕ
text_of_frames frames = flat_map frame_text frames

-- the frame behind those that are taken from a right stream
pub record NextRight (trace : GuestTrace) (stop : ℕ) (last : List (Option ℕ)) (rest : List ℕ) : Type 0 where
  pub frame : PageFrame
  pub behind : List ℕ
  pub fits : IsFrame (shape_of_trace trace) frame
  pub right : IsRight trace stop (stamp_of last frame.page) frame
  pub text : rest ≡ frame_text frame ++ behind

pub next_right : (trace : GuestTrace) (stop : ℕ) (last : List (Option ℕ)) (fs gs : List PageFrame) (rest : List ℕ)
    → IsTrace trace → All (IsFrame (shape_of_trace trace)) fs → All (IsFrame (shape_of_trace trace)) gs
    → AreRight trace stop last gs → 1 ≤ length rest → text_of_frames fs ++ rest ≡ text_of_frames gs
    → NextRight trace stop (last_stamps last fs) rest
next_right trace stop last [] [] rest is fit_f fit_g right some same = absurd (omega (arith, some, ap length same))
next_right trace stop last [] (g ∷ gs) rest is fit_f fit_g right some same = record {
  frame = g;
  behind = text_of_frames gs;
  fits = All-head (IsFrame (shape_of_trace trace)) g gs fit_g;
  right = right.0;
  text = same;
}
next_right trace stop last (f ∷ fs) [] rest is fit_f fit_g right some same =
    absurd (omega (arith, some, ap length same, length-append (frame_text f ++ text_of_frames fs) rest))
next_right trace stop last (f ∷ fs) (g ∷ gs) rest is fit_f fit_g right some same =
    let shape : GuestShape = shape_of_trace trace in
    let grouped : frame_text f ++ (text_of_frames fs ++ rest) ≡ frame_text g ++ text_of_frames gs =
    sym (append_assoc (frame_text f) (text_of_frames fs) rest) ∙ same in
    let front = same_front shape f g (text_of_frames fs ++ rest) (text_of_frames gs) (shape_is trace is)
    (All-head (IsFrame shape) f fs fit_f) (All-head (IsFrame shape) g gs fit_g) grouped in
    next_right trace stop (keep_last last f) fs gs rest is (All-tail (IsFrame shape) f fs fit_f)
    (All-tail (IsFrame shape) g gs fit_g)
    (subst (λ (h : PageFrame). AreRight trace stop (keep_last last h) gs) (sym front.0) right.1) some front.1

pub older_not : (last : Option ℕ) (stamp wanted : ℕ) → last ≡ Some wanted → stamp < wanted
    → IfSome last (λ came. came ≤ stamp) → ⊥
older_not last stamp wanted is less order =
    let low : wanted ≤ stamp = subst (λ (o : Option ℕ). IfSome o (λ came. came ≤ stamp)) is order in
    absurd (omega (arith, less, low))

fault_not : (trace : GuestTrace) (stop : ℕ) (last : Option ℕ) (frame : PageFrame) (cause : FrameCause) (wanted : ℕ)
    → IsRight trace stop last frame → IsFault trace stop last frame cause wanted → ⊥
fault_not trace stop last frame (Refused e) wanted right wrong = wrong
fault_not trace stop last frame NoVersion wanted right wrong = wrong.1 (right.right.version ∙ sym wrong.0)
fault_not trace stop last frame AfterStop wanted right wrong = absurd (omega (arith, right.right.in_time, wrong.1))
fault_not trace stop last frame Older wanted right wrong =
    older_not last frame.stamp wanted wrong.2 wrong.3 right.right.in_order
fault_not trace stop last frame Bytes wanted right wrong = wrong.1 right.bytes

pub front_not : (trace : GuestTrace) (stop : ℕ) (last : List (Option ℕ)) (rest : List ℕ) (fault : FrameFault)
    → IsTrace trace → NextRight trace stop last rest → IsWrongFront trace stop last rest fault → ⊥
front_not trace stop last rest fault is next wrong = elim wrong [
  | inl refused ↦
      let none : frame_refusal (shape_of_trace trace) rest ≡ None =
      never_refused (shape_of_trace trace) rest next.behind next.frame (shape_is trace is) next.fits next.text in
      absurd (cc (refused.2, none))
  | inr begins ↦
      let parted : frame_text begins.frame ++ drop begins.size rest ≡ frame_text next.frame ++ next.behind =
      ap (λ (x : List ℕ). x ++ drop begins.size rest) (sym begins.spells.text)
      ∙ take-append-drop begins.size rest ∙ next.text in
      let front = same_front (shape_of_trace trace) begins.frame next.frame (drop begins.size rest) next.behind
      (shape_is trace is) begins.spells.is_frame next.fits parted in
      fault_not trace stop (stamp_of last next.frame.page) next.frame fault.cause fault.wanted next.right
      (subst (λ (f : PageFrame). IsFault trace stop (stamp_of last f.page) f fault.cause fault.wanted) front.0
      begins.wrong)
]

pub stream_not : (trace : GuestTrace) (stop : ℕ) (frames : List PageFrame) (bytes : List ℕ) (found : WrongFrame)
    → IsTrace trace → All (IsFrame (shape_of_trace trace)) frames → AreRight trace stop (no_stamps trace.pages) frames
    → bytes ≡ text_of_frames frames → IsFirstWrong trace stop (no_stamps trace.pages) bytes found → ⊥
stream_not trace stop frames bytes found is fit right text wrong =
    front_not trace stop (last_stamps (no_stamps trace.pages) wrong.frames) (drop found.offset bytes) found.fault is
    (next_right trace stop (no_stamps trace.pages) wrong.frames frames (drop found.offset bytes) is
    wrong.begins.are_frames fit right (omega (arith, wrong.within, length-drop found.offset bytes))
    (sym wrong.begins.text ∙ text)) wrong.wrong

-- ---- a piece

-- no frame is at the front of bytes that are the beginning of one
pub no_front : (trace : GuestTrace) (rest behind : List ℕ) (frame : PageFrame) → IsTrace trace
    → IsFrame (shape_of_trace trace) frame → rest ≡ frame_text frame ++ behind
    → frame_refusal (shape_of_trace trace) rest ≡ Some Short → ⊥
no_front trace rest behind frame is fits text short =
    let none : frame_refusal (shape_of_trace trace) rest ≡ None =
    never_refused (shape_of_trace trace) rest behind frame (shape_is trace is) fits text in
    absurd (cc (short, none))

-- and nothing else is wrong with them
short_not : (trace : GuestTrace) (stop : ℕ) (last : List (Option ℕ)) (rest : List ℕ) (fault : FrameFault)
    → IsTrace trace → frame_refusal (shape_of_trace trace) rest ≡ Some Short → fault.cause ≢ Refused Short
    → IsWrongFront trace stop last rest fault → ⊥
short_not trace stop last rest fault is short other wrong = elim wrong [
  | inl refused ↦
      let same : refused.0 ≡ Short = same_Some refused.0 Short (sym refused.2 ∙ short) in
      other (ap (λ (f : FrameFault). f.cause) refused.1 ∙ ap (λ (e : FrameError). Refused e) same)
  | inr begins ↦
      let text : rest ≡ frame_text begins.frame ++ drop begins.size rest =
      sym (take-append-drop begins.size rest) ∙ ap (λ (x : List ℕ). x ++ drop begins.size rest) begins.spells.text in
      no_front trace rest (drop begins.size rest) begins.frame is begins.spells.is_frame text short
]

-- where right frames are followed by no whole one, no frame is wrong
piece_not : (trace : GuestTrace) (stop : ℕ) (last : List (Option ℕ)) (fs gs : List PageFrame) (rest left : List ℕ)
    (fault : FrameFault) → IsTrace trace → All (IsFrame (shape_of_trace trace)) fs
    → All (IsFrame (shape_of_trace trace)) gs → AreRight trace stop last gs
    → text_of_frames fs ++ rest ≡ text_of_frames gs ++ left
    → frame_refusal (shape_of_trace trace) left ≡ Some Short → fault.cause ≢ Refused Short
    → IsWrongFront trace stop (last_stamps last fs) rest fault → ⊥
piece_not trace stop last [] [] rest left fault is fit_f fit_g right same short other wrong =
    short_not trace stop last rest fault is (ap (frame_refusal (shape_of_trace trace)) same ∙ short) other wrong
piece_not trace stop last [] (g ∷ gs) rest left fault is fit_f fit_g right same short other wrong =
    front_not trace stop last rest fault is (record {
      frame = g;
      behind = text_of_frames gs ++ left;
      fits = All-head (IsFrame (shape_of_trace trace)) g gs fit_g;
      right = right.0;
      text = same ∙ append_assoc (frame_text g) (text_of_frames gs) left;
    }) wrong
piece_not trace stop last (f ∷ fs) [] rest left fault is fit_f fit_g right same short other wrong =
    no_front trace left (text_of_frames fs ++ rest) f is (All-head (IsFrame (shape_of_trace trace)) f fs fit_f)
    (sym same ∙ append_assoc (frame_text f) (text_of_frames fs) rest) short
piece_not trace stop last (f ∷ fs) (g ∷ gs) rest left fault is fit_f fit_g right same short other wrong =
    let shape : GuestShape = shape_of_trace trace in
    let grouped : frame_text f ++ (text_of_frames fs ++ rest) ≡ frame_text g ++ (text_of_frames gs ++ left) =
    sym (append_assoc (frame_text f) (text_of_frames fs) rest) ∙ same
    ∙ append_assoc (frame_text g) (text_of_frames gs) left in
    let front = same_front shape f g (text_of_frames fs ++ rest) (text_of_frames gs ++ left) (shape_is trace is)
    (All-head (IsFrame shape) f fs fit_f) (All-head (IsFrame shape) g gs fit_g) grouped in
    piece_not trace stop (keep_last last f) fs gs rest left fault is (All-tail (IsFrame shape) f fs fit_f)
    (All-tail (IsFrame shape) g gs fit_g)
    (subst (λ (h : PageFrame). AreRight trace stop (keep_last last h) gs) (sym front.0) right.1) front.1 short other
    wrong

pub takes_not_stops : (trace : GuestTrace) (old mid new : Checked) (bytes : List ℕ) (all : Taken) (found : WrongFrame)
    → IsTrace trace → TakesAll trace old mid bytes all → found.fault.cause ≢ Refused Short
    → StopsAt trace old new bytes found → ⊥
takes_not_stops trace old mid new bytes all found is takes other stops =
    let first = stops.first in
    let right = takes.takes.begins in
    piece_not trace old.stop old.last first.frames takes.takes.frames (drop found.offset bytes) (drop all.bytes bytes)
    found.fault is first.begins.are_frames right.are_frames right.right (sym first.begins.text ∙ right.text)
    takes.part other first.wrong

-- ---- all streams

-- the stream behind others, among right ones
pub record StreamAt (trace : GuestTrace) (stop : ℕ) (bytes : List ℕ) : Type 0 where
  pub frames : List PageFrame
  pub fits : All (IsFrame (shape_of_trace trace)) frames
  pub right : AreRight trace stop (no_stamps trace.pages) frames
  pub text : bytes ≡ text_of_frames frames

pub heads : (a b : List ℕ) (xs ys : List (List ℕ)) → a ∷ xs ≡ b ∷ ys → a ≡ b
heads a b xs ys same = cc same

pub tails : (a b : List ℕ) (xs ys : List (List ℕ)) → a ∷ xs ≡ b ∷ ys → xs ≡ ys
tails a b xs ys same = cc same

pub stream_at : (trace : GuestTrace) (stop : ℕ) (fs gs : List (List PageFrame)) (bytes : List ℕ) (more : List (List ℕ))
    → All (All (IsFrame (shape_of_trace trace))) gs → All (AreRight trace stop (no_stamps trace.pages)) gs
    → texts_of fs ++ bytes ∷ more ≡ texts_of gs → StreamAt trace stop bytes
stream_at trace stop [] [] bytes more fit right same = absurd (cc same)
stream_at trace stop [] (g ∷ gs) bytes more fit right same = record {
  frames = g;
  fits = All-head (All (IsFrame (shape_of_trace trace))) g gs fit;
  right = All-head (AreRight trace stop (no_stamps trace.pages)) g gs right;
  text = heads bytes (text_of_frames g) more (texts_of gs) same;
}
stream_at trace stop (f ∷ fs) [] bytes more fit right same = absurd (cc same)
stream_at trace stop (f ∷ fs) (g ∷ gs) bytes more fit right same =
    stream_at trace stop fs gs bytes more (All-tail (All (IsFrame (shape_of_trace trace))) g gs fit)
    (All-tail (AreRight trace stop (no_stamps trace.pages)) g gs right)
    (tails (text_of_frames f) (text_of_frames g) (texts_of fs ++ bytes ∷ more) (texts_of gs) same)

pub same_streams : (trace : GuestTrace) (fs gs : List (List PageFrame)) → IsTrace trace
    → All (All (IsFrame (shape_of_trace trace))) fs → All (All (IsFrame (shape_of_trace trace))) gs
    → texts_of fs ≡ texts_of gs → all_frames fs ≡ all_frames gs
same_streams trace [] [] is fit_f fit_g same = refl
same_streams trace [] (g ∷ gs) is fit_f fit_g same = absurd (cc same)
same_streams trace (f ∷ fs) [] is fit_f fit_g same = absurd (cc same)
same_streams trace (f ∷ fs) (g ∷ gs) is fit_f fit_g same =
    let fit : List PageFrame → Type 0 = All (IsFrame (shape_of_trace trace)) in
    let first : f ≡ g = one_stream_lem (shape_of_trace trace) f g (shape_is trace is)
    (All-head (All (IsFrame (shape_of_trace trace))) f fs fit_f)
    (All-head (All (IsFrame (shape_of_trace trace))) g gs fit_g)
    (heads (text_of_frames f) (text_of_frames g) (texts_of fs) (texts_of gs) same) in
    ap (λ (h : List PageFrame). h ++ all_frames fs) first
    ∙ ap (λ (t : List PageFrame). g ++ t) (same_streams trace fs gs is
    (All-tail (All (IsFrame (shape_of_trace trace))) f fs fit_f)
    (All-tail (All (IsFrame (shape_of_trace trace))) g gs fit_g)
    (tails (text_of_frames f) (text_of_frames g) (texts_of fs) (texts_of gs) same))

pub only_memory : (trace : GuestTrace) (stop : ℕ) (texts : List (List ℕ)) (error : StreamsError) → IsTrace trace
    → IsAllRight trace stop texts → IsFirstThing trace stop texts error → error ≡ Memory
only_memory trace stop texts Memory is all wrong = refl
only_memory trace stop texts (Frame stream found) is all wrong =
    let at = stream_at trace stop wrong.streams all.streams wrong.bytes wrong.more all.right.are_frames all.right.right
    (sym wrong.parts ∙ all.texts_are) in
    absurd (stream_not trace stop at.frames wrong.bytes found is at.fits at.right at.text wrong.first)
only_memory trace stop texts (Page found) is all wrong =
    let same : all_frames wrong.streams ≡ all_frames all.streams =
    same_streams trace wrong.streams all.streams is wrong.are.are_frames all.right.are_frames
    (sym wrong.are.texts_are ∙ all.texts_are) in
    let current : AreCurrentStamps trace stop (greatest_stamps (no_stamps trace.pages) (all_frames wrong.streams)) =
    subst (λ (fs : List PageFrame). AreCurrentStamps trace stop (greatest_stamps (no_stamps trace.pages) fs)) (sym same)
    all.right.current in
    absurd (wrong.behind.behind (wrong.behind.stamp ∙ current found.page wrong.behind.page
    ∙ ap (λ (v : ℕ). Some v) (sym wrong.behind.wanted)))
