-- Of the frames in a stream's bytes one is the first that is refused.
use Rattle.std.proofs.Common.{◌≡◌, ℕ, ◌<◌, ◌≤◌, List, [], ◌∷◌, ◌++◌, length, Some, None, refl, sym, ap, ◌∙◌}
use Rattle.std.proofs.Common.{append_assoc, inl, inr, arith}
use Rattle.std.specs.List.{All, flat_map}
use Rattle.std.proofs.lemmas.Bool.{cases_lt}
use Rattle.std.proofs.lemmas.List.Elements.{All-head, All-tail}
use Rattle.std.proofs.lemmas.Option.{none-some, same_Some}
use Rattle.migration_model.specs.Frames.{GuestShape, IsGuestShape, PageFrame, IsFrame, frame_text}
use Rattle.migration_model.specs.Parts.{GuestPart, with_frames}
use Rattle.migration_model.proofs.Frames.{same_front}
use Rattle.page_message.proofs.Found.{never_refused}
use Rattle.page_message.specs.Refusals.{frame_refusal}
use Rattle.page_message.specs.declared.error.FrameError.{FrameError}
use Rattle.collector.specs.Streams.{TakesFrames, IsFirstRefused}

-- two cuts of the same bytes: if one has fewer frames, a frame is at the front of what is behind them
pub frame_behind : (shape : GuestShape) (fs gs : List PageFrame) (rest behind : List ℕ) → IsGuestShape shape
    → All (IsFrame shape) fs → All (IsFrame shape) gs
    → flat_map frame_text fs ++ rest ≡ flat_map frame_text gs ++ behind → length fs < length gs
    → frame_refusal shape rest ≡ None
frame_behind shape fs [] rest behind is fits_f fits_g same fewer = absurd (omega (arith, fewer))
frame_behind shape [] (g ∷ gs) rest behind is fits_f fits_g same fewer =
    never_refused shape rest (flat_map frame_text gs ++ behind) g is (All-head (IsFrame shape) g gs fits_g)
    (same ∙ append_assoc (frame_text g) (flat_map frame_text gs) behind)
frame_behind shape (f ∷ fs) (g ∷ gs) rest behind is fits_f fits_g same fewer =
    let front = same_front shape f g (flat_map frame_text fs ++ rest) (flat_map frame_text gs ++ behind) is
    (All-head (IsFrame shape) f fs fits_f) (All-head (IsFrame shape) g gs fits_g)
    (sym (append_assoc (frame_text f) (flat_map frame_text fs) rest) ∙ same
    ∙ append_assoc (frame_text g) (flat_map frame_text gs) behind) in
    frame_behind shape fs gs rest behind is (All-tail (IsFrame shape) f fs fits_f)
    (All-tail (IsFrame shape) g gs fits_g) front.1 (omega (arith, fewer))

-- if both have as many, they are the same
pub same_cut : (shape : GuestShape) (fs gs : List PageFrame) (rest behind : List ℕ) → IsGuestShape shape
    → All (IsFrame shape) fs → All (IsFrame shape) gs
    → flat_map frame_text fs ++ rest ≡ flat_map frame_text gs ++ behind → length fs ≤ length gs → length gs ≤ length fs
    → (fs ≡ gs) × (rest ≡ behind)
same_cut shape [] [] rest behind is fits_f fits_g same low high = (refl, same)
same_cut shape [] (g ∷ gs) rest behind is fits_f fits_g same low high = absurd (omega (arith, high))
same_cut shape (f ∷ fs) [] rest behind is fits_f fits_g same low high = absurd (omega (arith, low))
same_cut shape (f ∷ fs) (g ∷ gs) rest behind is fits_f fits_g same low high =
    let front = same_front shape f g (flat_map frame_text fs ++ rest) (flat_map frame_text gs ++ behind) is
    (All-head (IsFrame shape) f fs fits_f) (All-head (IsFrame shape) g gs fits_g)
    (sym (append_assoc (frame_text f) (flat_map frame_text fs) rest) ∙ same
    ∙ append_assoc (frame_text g) (flat_map frame_text gs) behind) in
    let more = same_cut shape fs gs rest behind is (All-tail (IsFrame shape) f fs fits_f)
    (All-tail (IsFrame shape) g gs fits_g) front.1 (omega (arith, low)) (omega (arith, high)) in
    ((λ i. front.0 i ∷ more.0 i), more.1)

not_fewer : (old new other : GuestPart) (bytes : List ℕ) (i j : ℕ) (rest behind : List ℕ) (e : FrameError)
    → IsGuestShape old.shape → TakesFrames old new bytes i rest → frame_refusal old.shape rest ≡ Some e
    → TakesFrames old other bytes j behind → i < j → ⊥
not_fewer old new other bytes i j rest behind e is one refused two fewer =
    none-some e (sym (frame_behind old.shape one.frames two.frames rest behind is one.are_frames two.are_frames
    (sym one.text ∙ two.text) (omega (arith, one.count_is, two.count_is, fewer))) ∙ refused)

pub one_index : (old new other : GuestPart) (bytes : List ℕ) (i j : ℕ) (e f : FrameError) → IsGuestShape old.shape
    → IsFirstRefused old new bytes i e → IsFirstRefused old other bytes j f → i ≡ j
one_index old new other bytes i j e f is one two = elim (cases_lt i j) [
  | inl less ↦ absurd (not_fewer old new other bytes i j one.rest two.rest e is one.takes one.refused two.takes less)
  | inr low ↦ elim (cases_lt j i) [
    | inl less ↦ absurd (not_fewer old other new bytes j i two.rest one.rest f is two.takes two.refused one.takes less)
    | inr high ↦ omega (arith, low, high)
  ]
]

same_takes : (old new other : GuestPart) (bytes : List ℕ) (i j : ℕ) (e f : FrameError) → IsGuestShape old.shape
    → (one : IsFirstRefused old new bytes i e) → (two : IsFirstRefused old other bytes j f)
    → (one.takes.frames ≡ two.takes.frames) × (one.rest ≡ two.rest)
same_takes old new other bytes i j e f is one two =
    let same = one_index old new other bytes i j e f is one two in
    same_cut old.shape one.takes.frames two.takes.frames one.rest two.rest is one.takes.are_frames two.takes.are_frames
    (sym one.takes.text ∙ two.takes.text) (omega (arith, one.takes.count_is, two.takes.count_is, same))
    (omega (arith, one.takes.count_is, two.takes.count_is, same))

pub one_cause : (old new other : GuestPart) (bytes : List ℕ) (i j : ℕ) (e f : FrameError) → IsGuestShape old.shape
    → IsFirstRefused old new bytes i e → IsFirstRefused old other bytes j f → e ≡ f
one_cause old new other bytes i j e f is one two =
    same_Some e f (sym one.refused
    ∙ ap (frame_refusal old.shape) (same_takes old new other bytes i j e f is one two).1 ∙ two.refused)

pub one_part : (old new other : GuestPart) (bytes : List ℕ) (i j : ℕ) (e f : FrameError) → IsGuestShape old.shape
    → IsFirstRefused old new bytes i e → IsFirstRefused old other bytes j f → new ≡ other
one_part old new other bytes i j e f is one two =
    one.takes.part ∙ ap (λ (fs : List PageFrame). with_frames old fs) (same_takes old new other bytes i j e f is one
    two).0 ∙ sym two.takes.part

pub none_refused : (old new other : GuestPart) (bytes : List ℕ) (count index : ℕ) (e : FrameError)
    → IsGuestShape old.shape → TakesFrames old new bytes count [] → IsFirstRefused old other bytes index e → ⊥
none_refused old new other bytes count index e is whole stops = elim (cases_lt index count) [
  | inl less ↦ not_fewer old other new bytes index count stops.rest [] e is stops.takes stops.refused whole less
  | inr low ↦ elim (cases_lt count index) [
    | inl less ↦
        let none : frame_refusal old.shape [] ≡ None =
        frame_behind old.shape whole.frames stops.takes.frames [] stops.rest is whole.are_frames stops.takes.are_frames
        (sym whole.text ∙ stops.takes.text) (omega (arith, whole.count_is, stops.takes.count_is, less)) in
        absurd (cc none)
    | inr high ↦
        let same = same_cut old.shape whole.frames stops.takes.frames [] stops.rest is whole.are_frames
        stops.takes.are_frames (sym whole.text ∙ stops.takes.text)
        (omega (arith, whole.count_is, stops.takes.count_is, low, high))
        (omega (arith, whole.count_is, stops.takes.count_is, low, high)) in
        omega (arith, stops.some, ap length same.1)
  ]
]
