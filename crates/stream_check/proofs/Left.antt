-- The memory that a part has whose pages are all at their versions.
use Rattle.std.proofs.Common.{◌≡◌, ℕ, zero, suc, ◌+◌, ◌-◌, ◌*◌, ◌^◌, ◌<◌, List, [], ◌∷◌, length, take, drop}
use Rattle.std.proofs.Common.{Option, Some, sym, ap, subst, ◌∙◌, arith}
use Rattle.std.specs.List.{All, flat_map, between, range_with_len}
use Rattle.std.proofs.lemmas.List.{append-nil, length-append}
use Rattle.std.proofs.lemmas.List.Elements.{All-head, All-take}
use Rattle.migration_model.specs.Trace.{GuestTrace, IsGuestWrite, IsTrace}
use Rattle.migration_model.specs.Memory.{image_after, page_of}
use Rattle.migration_model.specs.Versions.{page_at}
use Rattle.migration_model.specs.Frames.{GuestShape, PageFrame, IsFrame}
use Rattle.migration_model.specs.Final.{shape_of_trace}
use Rattle.migration_model.specs.Parts.{GuestPart, copy_at, empty_part, with_frames}
use Rattle.migration_model.specs.Images.{bytes_of, bytes_of_first, memory_in}
use Rattle.migration_model.proofs.Current.{piece_at}
use Rattle.migration_model.proofs.Pages.{length-page_at, replay-from_pages}
use Rattle.page_versions.specs.Index.{version_after}
use Rattle.stream_check.specs.Ends.{AreCurrentStamps}
use Rattle.stream_check.specs.Faults.{AreRight}
use Rattle.stream_check.specs.Receivers.{AreRightStreams, HasMemoryAt, all_frames, with_last_frames}
use Rattle.stream_check.specs.Stamps.{no_stamps, greatest_stamps, last_stamps}
use Rattle.stream_check.proofs.Cut.{at_version}
use Rattle.stream_check.proofs.Kept.{Tied, Tied-nothing, right_copy, right_copies, lasts_tied, same_stamps}
use Rattle.stream_check.proofs.Kept.{streams_tied}

pieces : (f : ℕ → List ℕ) (size a n : ℕ) → ((q : ℕ) → q < a + n → length (f q) ≡ size)
    → length (flat_map f (range_with_len a n)) ≡ n * size
pieces f size a zero sizes = omega arith
pieces f size a (suc n) sizes =
    let rest = flat_map f (range_with_len (a + 1) n) in
    omega (
      arith,
      length-append (f a) rest,
      sizes a (omega arith),
      pieces f size (a + 1) n (λ q low. sizes q (omega (arith, low))),
    )

pub has_memory : (trace : GuestTrace) (stop : ℕ) (part : GuestPart) (stamps : List (Option ℕ)) → IsTrace trace
    → Tied trace part stamps → AreCurrentStamps trace stop stamps → HasMemoryAt trace stop part
has_memory trace stop part stamps is tied current =
    let n : ℕ = 2 ^ trace.shift in
    let f : ℕ → List ℕ = λ page. bytes_of (copy_at part page) in
    let at : (page : ℕ) → page < trace.pages
    → copy_at part page ≡ Some (right_copy trace page (version_after trace page stop)) =
    λ page low. tied.each page low ∙ ap (right_copies trace page) (current page low) in
    let bytes : (page : ℕ) → page < trace.pages → f page ≡ page_at trace page stop =
    λ page low. ap bytes_of (at page low) ∙ at_version trace page stop is low in
    let sizes : (page : ℕ) → page < trace.pages → length (f page) ≡ n =
    λ page low. ap length (bytes page low) ∙ length-page_at trace page stop is low in
    let len : length (bytes_of_first part trace.pages) ≡ trace.pages * n =
    pieces f n 0 trace.pages (λ q low. sizes q (omega (arith, low))) in
    let same : (page : ℕ) → page < trace.pages → page_of (memory_in part) page ≡ page_of (image_after trace stop) page =
    λ page low.
    let front : 0 + page ≡ page = omega arith in
    let size : page * n + n - page * n ≡ n = omega arith in
    ap (λ (g : GuestShape). between (page * 2 ^ g.shift) (page * 2 ^ g.shift + 2 ^ g.shift)
    (bytes_of_first part g.pages)) tied.shape
    ∙ ap (λ (k : ℕ). take k (drop (page * n) (bytes_of_first part trace.pages))) size
    ∙ piece_at f n 0 trace.pages page low (λ q below. sizes q (omega (arith, below)))
    ∙ ap f front ∙ bytes page low in (
      λ page low none. absurd (cc (at page low, none)),
      replay-from_pages trace.version trace.shift trace.pages (take stop trace.writes) (memory_in part)
          (ap (λ (s : GuestShape). s.shift) tied.shape) (ap (λ (s : GuestShape). s.pages) tied.shape)
          (subst (λ (s : GuestShape). length (bytes_of_first part s.pages) ≡ s.pages * 2 ^ s.shift) (sym tied.shape)
          len)
          (All-take (IsGuestWrite trace.version trace.shift trace.pages) stop trace.writes is.writes.each) same,
    )

pub greatest_left : (trace : GuestTrace) (stop : ℕ) (streams : List (List PageFrame)) → IsTrace trace
    → AreRightStreams trace stop streams
    → HasMemoryAt trace stop
    (with_frames (empty_part (shape_of_trace trace)) (all_frames streams))
greatest_left trace stop streams is right =
    let frames : List PageFrame = all_frames streams in
    has_memory trace stop (with_frames (empty_part (shape_of_trace trace)) frames)
    (greatest_stamps (no_stamps trace.pages) frames) is
    (streams_tied trace stop (no_stamps trace.pages) (empty_part (shape_of_trace trace)) (no_stamps trace.pages) streams
    (Tied-nothing trace) right.are_frames right.right) right.current

pub last_left : (trace : GuestTrace) (stop : ℕ) (frames : List PageFrame) → IsTrace trace
    → AreRightStreams trace stop (frames ∷ [])
    → HasMemoryAt trace stop (with_last_frames (empty_part (shape_of_trace trace)) frames)
last_left trace stop frames is right =
    let fit : All (IsFrame (shape_of_trace trace)) frames =
    All-head (All (IsFrame (shape_of_trace trace))) frames [] right.are_frames in
    let each : AreRight trace stop (no_stamps trace.pages) frames =
    All-head (AreRight trace stop (no_stamps trace.pages)) frames [] right.right in
    let stamps : last_stamps (no_stamps trace.pages) frames
    ≡ greatest_stamps (no_stamps trace.pages) (all_frames (frames ∷ [])) =
    same_stamps trace stop (no_stamps trace.pages) frames each
    ∙ ap (greatest_stamps (no_stamps trace.pages)) (sym (append-nil frames)) in
    has_memory trace stop (with_last_frames (empty_part (shape_of_trace trace)) frames)
    (last_stamps (no_stamps trace.pages) frames) is
    (lasts_tied trace stop (no_stamps trace.pages) (empty_part (shape_of_trace trace)) (no_stamps trace.pages) frames
    (Tied-nothing trace) fit each)
    (subst (AreCurrentStamps trace stop) (sym stamps) right.current)
