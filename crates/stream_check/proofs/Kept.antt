-- What receivers keep of frames with which nothing is wrong, and the stamps of it.
use Rattle.std.proofs.Common.{◌≡◌, ℕ, ◌<◌, ◌≤◌, List, [], ◌∷◌, ◌++◌, length, get_or, set, max, Option, Some}
use Rattle.std.proofs.Common.{None, IfSome, inl, inr, refl, sym, ap, subst, ◌∙◌, arith}
use Rattle.std.specs.List.{All}
use Rattle.std.proofs.lemmas.Bool.{cases_lt, cases_eq}
use Rattle.std.proofs.lemmas.List.{get_or-set_same, get_or-set_other, get_or-replicate, length-replicate, length-set}
use Rattle.std.proofs.lemmas.List.Elements.{All-head, All-tail}
use Rattle.std.proofs.lemmas.List.Sums.{fold-append}
use Rattle.migration_model.specs.Trace.{GuestTrace}
use Rattle.migration_model.specs.Versions.{page_at}
use Rattle.migration_model.specs.Frames.{GuestShape, PageFrame, IsFrame, content_of}
use Rattle.migration_model.specs.Final.{shape_of_trace}
use Rattle.migration_model.specs.Parts.{PageCopy, GuestPart, part_with, copy_at, copy_in, empty_part, later, with_frame}
use Rattle.migration_model.specs.Parts.{with_frames}
use Rattle.migration_model.proofs.Parts.{later_first, later_second, same_copy}
use Rattle.stream_check.specs.Stamps.{no_stamps, stamp_of, keep_last, greater, keep_greatest, last_stamps}
use Rattle.stream_check.specs.Stamps.{greatest_stamps}
use Rattle.stream_check.specs.Faults.{IsRight, AreRight}
use Rattle.stream_check.specs.Receivers.{all_frames, with_last, with_last_frames}

-- the page at a stamp
abbrev pub right_copy : GuestTrace → ℕ → ℕ → PageCopy
right_copy trace page stamp = record { stamp = stamp; content = page_at trace page stamp }

abbrev pub right_copies : GuestTrace → ℕ → Option ℕ → Option PageCopy
right_copies trace page None = None
right_copies trace page (Some stamp) = Some (right_copy trace page stamp)

-- the part has each page that came at its stamp, and no other
pub record Tied (trace : GuestTrace) (part : GuestPart) (stamps : List (Option ℕ)) : Type 0 where
  pub shape : part.shape ≡ shape_of_trace trace
  pub copies : length part.copies ≡ trace.pages
  pub slots : length stamps ≡ trace.pages
  pub each : (page : ℕ) → page < trace.pages → copy_at part page ≡ right_copies trace page (stamp_of stamps page)

pub Tied-nothing : (trace : GuestTrace) → Tied trace (empty_part (shape_of_trace trace)) (no_stamps trace.pages)
Tied-nothing trace = record {
  shape = refl;
  copies = length-replicate trace.pages None;
  slots = length-replicate trace.pages None;
  each =
      λ page low. get_or-replicate trace.pages page None None low
      ∙ ap (right_copies trace page) (sym (get_or-replicate trace.pages page None None low));
}

put_tied : (trace : GuestTrace) (part : GuestPart) (stamps : List (Option ℕ)) (page : ℕ) (copy : PageCopy) (stamp : ℕ)
    → Tied trace part stamps → page < trace.pages → copy ≡ right_copy trace page stamp
    → Tied trace (part_with part.shape (set part.copies page (Some copy))) (set stamps page (Some stamp))
put_tied trace part stamps page copy stamp tied low is =
    let in_copies : page < length part.copies = omega (arith, low, tied.copies) in
    let in_slots : page < length stamps = omega (arith, low, tied.slots) in
    record {
      shape = tied.shape;
      copies = length-set part.copies page (Some copy) ∙ tied.copies;
      slots = length-set stamps page (Some stamp) ∙ tied.slots;
      each = λ p inside. elim (cases_eq p page) [
        | inl same ↦
            subst (λ (q : ℕ). get_or (set part.copies page (Some copy)) q None
            ≡ right_copies trace q (get_or (set stamps page (Some stamp)) q None)) (sym same)
            (get_or-set_same part.copies page (Some copy) None in_copies ∙ ap (λ (c : PageCopy). Some c) is
            ∙ ap (right_copies trace page) (sym (get_or-set_same stamps page (Some stamp) None in_slots)))
        | inr apart ↦
            get_or-set_other part.copies page p (Some copy) None apart ∙ tied.each p inside
            ∙ ap (right_copies trace p) (sym (get_or-set_other stamps page p (Some stamp) None apart))
      ];
    }

copy_is : (trace : GuestTrace) (stop : ℕ) (last : Option ℕ) (part : GuestPart) (frame : PageFrame)
    → part.shape ≡ shape_of_trace trace → IsRight trace stop last frame
    → copy_in part.shape frame ≡ right_copy trace frame.page frame.stamp
copy_is trace stop last part frame shape right =
    same_copy (copy_in part.shape frame) (right_copy trace frame.page frame.stamp) refl
    (ap (λ (s : GuestShape). content_of s frame) shape ∙ right.bytes)

last_tied : (trace : GuestTrace) (stop : ℕ) (last : Option ℕ) (part : GuestPart) (stamps : List (Option ℕ))
    (frame : PageFrame) → Tied trace part stamps → frame.page < trace.pages → IsRight trace stop last frame
    → Tied trace (with_last part frame) (keep_last stamps frame)
last_tied trace stop last part stamps frame tied low right =
    put_tied trace part stamps frame.page (copy_in part.shape frame) frame.stamp tied low
    (copy_is trace stop last part frame tied.shape right)

later_is : (trace : GuestTrace) (page : ℕ) (came : Option ℕ) (stamp : ℕ)
    → later (right_copies trace page came) (Some (right_copy trace page stamp))
    ≡ Some (right_copy trace page (greater came stamp))
later_is trace page None stamp = refl
later_is trace page (Some came) stamp = elim (cases_lt came stamp) [
  | inl lower ↦
      let is : stamp ≡ max came stamp = omega (arith, lower) in
      later_second (right_copy trace page came) (right_copy trace page stamp) lower
      ∙ ap (λ (s : ℕ). Some (right_copy trace page s)) is
  | inr higher ↦
      let is : came ≡ max came stamp = omega (arith, higher) in
      later_first (right_copy trace page came) (right_copy trace page stamp) higher
      ∙ ap (λ (s : ℕ). Some (right_copy trace page s)) is
]

greatest_tied : (trace : GuestTrace) (stop : ℕ) (last : Option ℕ) (part : GuestPart) (stamps : List (Option ℕ))
    (frame : PageFrame) → Tied trace part stamps → frame.page < trace.pages → IsRight trace stop last frame
    → Tied trace (with_frame part frame) (keep_greatest stamps frame)
greatest_tied trace stop last part stamps frame tied low right =
    let came : Option ℕ = stamp_of stamps frame.page in
    let copy : PageCopy = right_copy trace frame.page (greater came frame.stamp) in
    let is : later (copy_at part frame.page) (Some (copy_in part.shape frame)) ≡ Some copy =
    ap (λ (o : Option PageCopy). later o (Some (copy_in part.shape frame))) (tied.each frame.page low)
    ∙ ap (λ (c : PageCopy). later (right_copies trace frame.page came) (Some c))
    (copy_is trace stop last part frame tied.shape right)
    ∙ later_is trace frame.page came frame.stamp in
    subst (λ (o : Option PageCopy). Tied trace (part_with part.shape (set part.copies frame.page o))
    (keep_greatest stamps frame)) (sym is)
    (put_tied trace part stamps frame.page copy (greater came frame.stamp) tied low refl)

-- ---- all frames of a stream

pub lasts_tied : (trace : GuestTrace) (stop : ℕ) (order : List (Option ℕ)) (part : GuestPart)
    (stamps : List (Option ℕ)) (frames : List PageFrame) → Tied trace part stamps
    → All (IsFrame (shape_of_trace trace)) frames → AreRight trace stop order frames
    → Tied trace (with_last_frames part frames) (last_stamps stamps frames)
lasts_tied trace stop order part stamps [] tied fit right = tied
lasts_tied trace stop order part stamps (frame ∷ frames) tied fit right =
    lasts_tied trace stop (keep_last order frame) (with_last part frame) (keep_last stamps frame) frames
    (last_tied trace stop (stamp_of order frame.page) part stamps frame tied
    (All-head (IsFrame (shape_of_trace trace)) frame frames fit).page right.0)
    (All-tail (IsFrame (shape_of_trace trace)) frame frames fit) right.1

pub greatests_tied : (trace : GuestTrace) (stop : ℕ) (order : List (Option ℕ)) (part : GuestPart)
    (stamps : List (Option ℕ)) (frames : List PageFrame) → Tied trace part stamps
    → All (IsFrame (shape_of_trace trace)) frames → AreRight trace stop order frames
    → Tied trace (with_frames part frames) (greatest_stamps stamps frames)
greatests_tied trace stop order part stamps [] tied fit right = tied
greatests_tied trace stop order part stamps (frame ∷ frames) tied fit right =
    greatests_tied trace stop (keep_last order frame) (with_frame part frame) (keep_greatest stamps frame) frames
    (greatest_tied trace stop (stamp_of order frame.page) part stamps frame tied
    (All-head (IsFrame (shape_of_trace trace)) frame frames fit).page right.0)
    (All-tail (IsFrame (shape_of_trace trace)) frame frames fit) right.1

-- and of several
pub streams_tied : (trace : GuestTrace) (stop : ℕ) (order : List (Option ℕ)) (part : GuestPart)
    (stamps : List (Option ℕ)) (streams : List (List PageFrame)) → Tied trace part stamps
    → All (All (IsFrame (shape_of_trace trace))) streams → All (AreRight trace stop order) streams
    → Tied trace (with_frames part (all_frames streams))
    (greatest_stamps stamps (all_frames streams))
streams_tied trace stop order part stamps [] tied fit right = tied
streams_tied trace stop order part stamps (frames ∷ streams) tied fit right =
    let rest : List PageFrame = all_frames streams in
    let first : Tied trace (with_frames part frames) (greatest_stamps stamps frames) =
    greatests_tied trace stop order part stamps frames tied
    (All-head (All (IsFrame (shape_of_trace trace))) frames streams fit)
    (All-head (AreRight trace stop order) frames streams right) in
    let all : Tied trace (with_frames (with_frames part frames) rest)
    (greatest_stamps (greatest_stamps stamps frames) rest) =
    streams_tied trace stop order (with_frames part frames) (greatest_stamps stamps frames) streams first
    (All-tail (All (IsFrame (shape_of_trace trace))) frames streams fit)
    (All-tail (AreRight trace stop order) frames streams right) in
    subst (λ (p : GuestPart). Tied trace p (greatest_stamps stamps (frames ++ rest)))
    (sym (fold-append with_frame part frames rest))
    (subst (λ (s : List (Option ℕ)). Tied trace (with_frames (with_frames part frames) rest) s)
    (sym (fold-append keep_greatest stamps frames rest)) all)

-- in a stream whose stamps never go down, the last stamps are the greatest
greater_is : (came : Option ℕ) (stamp : ℕ) → IfSome came (λ c. c ≤ stamp) → greater came stamp ≡ stamp
greater_is None stamp order = refl
greater_is (Some came) stamp order = omega (arith, order)

pub same_stamps : (trace : GuestTrace) (stop : ℕ) (stamps : List (Option ℕ)) (frames : List PageFrame)
    → AreRight trace stop stamps frames → last_stamps stamps frames ≡ greatest_stamps stamps frames
same_stamps trace stop stamps [] right = refl
same_stamps trace stop stamps (frame ∷ frames) right =
    same_stamps trace stop (keep_last stamps frame) frames right.1
    ∙ ap (λ (s : ℕ). greatest_stamps (set stamps frame.page (Some s)) frames)
    (sym (greater_is (stamp_of stamps frame.page) frame.stamp right.0.right.in_order))
