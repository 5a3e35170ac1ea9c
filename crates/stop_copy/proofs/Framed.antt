-- Frames of pages as they are at their versions.
use Rattle.std.proofs.Common.{◌≡◌, ℕ, ◌+◌, ◌<◌, List, [], ◌∷◌, ◌++◌, length, take, get_or, sym, ap, subst, ◌∙◌}
use Rattle.std.proofs.lemmas.List.{take_more, map_push}
use Rattle.std.proofs.lemmas.List.Elements.{All-append, All-cons, All-nil}
use Rattle.migration_model.specs.Final.{current_copy, shape_of_trace}
use Rattle.migration_model.specs.Frames.{GuestShape, PageFrame, IsFrame, content_of}
use Rattle.migration_model.specs.Parts.{copy_in}
use Rattle.migration_model.specs.Trace.{GuestTrace}
use Rattle.migration_model.specs.Versions.{page_at}
use Rattle.migration_model.proofs.Parts.{same_copy}
use Rattle.stop_copy.specs.Copies.{IsCurrentFrame, AreCurrentFrames}

pub IsCurrentFrame-from : (trace : GuestTrace) (versions : List ℕ) (page : ℕ) (shape : GuestShape) (frame : PageFrame)
    (bytes : List ℕ) → shape ≡ shape_of_trace trace
    → IsFrame shape frame → frame.page ≡ page → frame.stamp ≡ get_or versions page 0 → content_of shape frame ≡ bytes
    → bytes ≡ page_at trace page (get_or versions page 0) → IsCurrentFrame trace versions frame
IsCurrentFrame-from trace versions page shape frame bytes shape_is fits page_is stamp content is = record {
  fits = subst (λ (s : GuestShape). IsFrame s frame) shape_is fits;
  copy = same_copy (copy_in (shape_of_trace trace) frame) (current_copy trace versions frame.page)
      (stamp ∙ ap (λ p. get_or versions p 0) (sym page_is))
      (ap (λ (s : GuestShape). content_of s frame) (sym shape_is) ∙ content ∙ is
      ∙ ap (λ p. page_at trace p (get_or versions p 0)) (sym page_is));
}

pub AreCurrentFrames-more : (trace : GuestTrace) (versions pages : List ℕ) (i page : ℕ) (frames : List PageFrame)
    (frame : PageFrame) → i < length pages
    → page ≡ get_or pages i page → AreCurrentFrames trace versions (take i pages) frames
    → IsCurrentFrame trace versions frame → frame.page ≡ page
    → AreCurrentFrames trace versions (take (i + 1) pages) (frames ++ frame ∷ [])
AreCurrentFrames-more trace versions pages i page frames frame low is before current own = record {
  pages_are = map_push (λ (f : PageFrame). f.page) frames frame ∙ (λ j. before.pages_are j ++ own j ∷ [])
      ∙ ap (λ (p : ℕ). take i pages ++ p ∷ []) is
      ∙ sym (take_more pages i page low);
  each = All-append (IsCurrentFrame trace versions) frames (frame ∷ []) before.each
      (All-cons (IsCurrentFrame trace versions) frame [] current (All-nil (IsCurrentFrame trace versions)));
}
