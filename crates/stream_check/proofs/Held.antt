-- The bytes of a frame beside those that a trace gives.
use Rattle.std.proofs.Common.{◌≡◌, ◌↔◌, ℕ, ◌^◌, ◌<◌, Bool, IsTrue, List, [], length, replicate, unwrap_or, sym, ap, ◌∙◌}
use Rattle.std.proofs.lemmas.List.Elements.{All-nil}
use Rattle.migration_model.specs.Trace.{GuestTrace, IsGuestWrite, IsTrace}
use Rattle.migration_model.specs.Versions.{page_at}
use Rattle.migration_model.specs.Frames.{PageFrame, IsFrame, content_of}
use Rattle.migration_model.specs.Final.{shape_of_trace}
use Rattle.migration_model.proofs.Pages.{length-page_at, page_replayed}

pub has_page_is : (trace : GuestTrace) (frame : PageFrame) (made : List ℕ) (has : Bool) → IsTrace trace
    → IsFrame (shape_of_trace trace) frame → made ≡ page_at trace frame.page frame.stamp
    → (IsTrue has ↔ (unwrap_or frame.body (replicate (length made) 0) ≡ made))
    → (IsTrue has ↔ (content_of (shape_of_trace trace) frame ≡ page_at trace frame.page frame.stamp))
has_page_is trace frame made has is_trace fits is tells =
    let len : length made ≡ 2 ^ trace.shift = ap length is
    ∙ length-page_at trace frame.page frame.stamp is_trace fits.page in
    let same : unwrap_or frame.body (replicate (length made) 0) ≡ content_of (shape_of_trace trace) frame =
    ap (λ (n : ℕ). unwrap_or frame.body (replicate n 0)) len in
    ((λ true_is. sym same ∙ tells.0 true_is ∙ is), (λ content. tells.1 (same ∙ content ∙ sym is)))

-- before its first write a page is zeros
pub page_at_first : (trace : GuestTrace) (page : ℕ) → IsTrace trace → page < trace.pages
    → page_at trace page 0 ≡ replicate (2 ^ trace.shift) 0
page_at_first trace page is low =
    page_replayed trace.version trace.shift trace.pages [] page low
    (All-nil (IsGuestWrite trace.version trace.shift trace.pages))
