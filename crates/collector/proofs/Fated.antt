-- Fates are apart, and a copy of a page tells its frame.
use Rattle.std.proofs.Common.{◌==◌, ◌≡◌, ℕ, ◌^◌, ◌<◌, ◌≤◌, List, length, replicate, get_or, Option, Some, None}
use Rattle.std.proofs.Common.{IfSome, unwrap_or, refl, sym, ap, subst, arith, ltb, option_map, ◌∙◌}
use Rattle.std.specs.Prelude.{if◌then◌else◌}
use Rattle.std.specs.List.{list_all}
use Rattle.std.proofs.lemmas.Bool.{cond-true, cond-false, lt-ltb, le-ltb}
use Rattle.std.proofs.lemmas.List.Elements.{All-replicate}
use Rattle.migration_model.specs.Frames.{GuestShape, PageFrame, IsFrame, IsZeros}
use Rattle.migration_model.specs.Parts.{GuestPart, copy_at, part_with, copy_in}
use Rattle.migration_model.proofs.Frames.{same_frame, tells_zeros}
use Rattle.page_message.proofs.ZeroBytes.{not_zeros}
use Rattle.collector.specs.Fates.{IsFate, goes}
use Rattle.collector.specs.Tables.{IsTable, copies_of, frame_at, frame_in}
use Rattle.collector.specs.declared.fate.Fate.{Fate}
use Rattle.collector.specs.declared.fate.Fate.TheVariants.{New, Newer, Old}
use Rattle.collector.proofs.Tabled.{copy_at-table}

pub one_fate_lem : (kept : Option ℕ) (stamp : ℕ) (a b : Fate) → IsFate kept stamp a → IsFate kept stamp b → a ≡ b
one_fate_lem None stamp New New is_a is_b = refl
one_fate_lem None stamp New Newer is_a is_b = absurd is_b
one_fate_lem None stamp New Old is_a is_b = absurd is_b
one_fate_lem None stamp Newer b is_a is_b = absurd is_a
one_fate_lem None stamp Old b is_a is_b = absurd is_a
one_fate_lem (Some kept) stamp New b is_a is_b = absurd (cc is_a)
one_fate_lem (Some kept) stamp Newer New is_a is_b = absurd (cc is_b)
one_fate_lem (Some kept) stamp Newer Newer is_a is_b = refl
one_fate_lem (Some kept) stamp Newer Old is_a is_b = absurd (omega (arith, is_a, is_b))
one_fate_lem (Some kept) stamp Old New is_a is_b = absurd (cc is_b)
one_fate_lem (Some kept) stamp Old Newer is_a is_b = absurd (omega (arith, is_a, is_b))
one_fate_lem (Some kept) stamp Old Old is_a is_b = refl

-- a body is told by the bytes of its page
body_again : (size : ℕ) (body : Option (List ℕ)) → IfSome body (λ bytes. (length bytes ≡ size) × ¬ IsZeros bytes)
    → (if list_all (λ byte. byte == 0) (unwrap_or body (replicate size 0)) then None
    else Some (unwrap_or body (replicate size 0))) ≡ body
body_again size None fits =
    cond-true _ None _ ((tells_zeros (replicate size 0)).1 (All-replicate (λ byte. byte ≡ 0) size 0 refl))
body_again size (Some bytes) fits = cond-false _ None _ (not_zeros bytes fits.1)

-- a frame is told by the copy that it brings
pub frame_again : (shape : GuestShape) (page : ℕ) (frame : PageFrame) → frame.page ≡ page → IsFrame shape frame
    → frame_in page (copy_in shape frame) ≡ frame
frame_again shape page frame own fits =
    same_frame (frame_in page (copy_in shape frame)) frame (sym own) refl
    (body_again (2 ^ shape.shift) frame.body fits.body)

-- so is each that a table has
pub frame_at-table : (shape : GuestShape) (table : List (Option PageFrame)) (page : ℕ) (frame : PageFrame)
    → IsTable shape table → get_or table page None ≡ Some frame
    → frame_at (part_with shape (copies_of shape table)) page ≡ Some frame
frame_at-table shape table page frame is here =
    let own : IfSome (Some frame) (λ f. (f.page ≡ page) × IsFrame shape f) =
    subst (λ (x : Option PageFrame). IfSome x (λ f. (f.page ≡ page) × IsFrame shape f)) here (is.own page) in
    rw (copy_at-table shape table page, here) (ap (λ (f : PageFrame). Some f) (frame_again shape page frame own.0 own.1))

-- of the kept frame and one that comes, what goes is told by the copies: here the kept one
swapped : (shape : GuestShape) (page stamp : ℕ) (slot : Option PageFrame) (frame : PageFrame)
    → IfSome slot (λ f. (f.page ≡ page) × IsFrame shape f) → option_map (λ f. f.stamp) slot ≡ Some stamp
    → stamp < frame.stamp
    → slot ≡ option_map (frame_in page) (goes (option_map (copy_in shape) slot) (copy_in shape frame))
swapped shape page stamp None frame own is less = refl
swapped shape page stamp (Some kept) frame own is less =
    let same : kept.stamp ≡ stamp = ap (λ (x : Option ℕ). unwrap_or x 0) is in
    sym (ap (option_map (frame_in page)) (cond-true (ltb kept.stamp frame.stamp) (Some (copy_in shape kept))
    (Some (copy_in shape frame)) (lt-ltb kept.stamp frame.stamp (omega (arith, same, less))))
    ∙ ap (λ (f : PageFrame). Some f) (frame_again shape page kept own.0 own.1))

-- and here the one that comes
returned : (shape : GuestShape) (page stamp : ℕ) (slot : Option PageFrame) (frame : PageFrame)
    → frame.page ≡ page → IsFrame shape frame → option_map (λ f. f.stamp) slot ≡ Some stamp → frame.stamp ≤ stamp
    → Some frame ≡ option_map (frame_in page) (goes (option_map (copy_in shape) slot) (copy_in shape frame))
returned shape page stamp None frame own fits is le = absurd (cc is)
returned shape page stamp (Some kept) frame own fits is le =
    let same : kept.stamp ≡ stamp = ap (λ (x : Option ℕ). unwrap_or x 0) is in
    sym (ap (option_map (frame_in page)) (cond-false (ltb kept.stamp frame.stamp) (Some (copy_in shape kept))
    (Some (copy_in shape frame)) (le-ltb kept.stamp frame.stamp (omega (arith, same, le))))
    ∙ ap (λ (f : PageFrame). Some f) (frame_again shape page frame own fits))

pub swapped-table : (shape : GuestShape) (table : List (Option PageFrame)) (page stamp : ℕ) (frame : PageFrame)
    (part : GuestPart) → IsTable shape table → part_with shape (copies_of shape table) ≡ part
    → option_map (λ f. f.stamp) (get_or table page None) ≡ Some stamp → stamp < frame.stamp
    → get_or table page None ≡ option_map (frame_in page) (goes (copy_at part page) (copy_in part.shape frame))
swapped-table shape table page stamp frame part is view here less =
    subst (λ (p : GuestPart). get_or table page None
    ≡ option_map (frame_in page) (goes (copy_at p page) (copy_in p.shape frame))) view
    (rw (copy_at-table shape table page) (swapped shape page stamp (get_or table page None) frame (is.own page) here less))

pub returned-table : (shape : GuestShape) (table : List (Option PageFrame)) (page stamp : ℕ) (frame : PageFrame)
    (part : GuestPart) → part_with shape (copies_of shape table) ≡ part → frame.page ≡ page
    → IsFrame part.shape frame → option_map (λ f. f.stamp) (get_or table page None) ≡ Some stamp
    → frame.stamp ≤ stamp
    → Some frame ≡ option_map (frame_in page) (goes (copy_at part page) (copy_in part.shape frame))
returned-table shape table page stamp frame part view own fits here le =
    subst (λ (p : GuestPart). IsFrame p.shape frame → Some frame
    ≡ option_map (frame_in page) (goes (copy_at p page) (copy_in p.shape frame))) view
    (λ fits. rw (copy_at-table shape table page)
    (returned shape page stamp (get_or table page None) frame own fits here le)) fits
