-- The parts after a final copy, joined.
use Rattle.std.proofs.Common.{◌≡◌, ℕ, ◌<◌, Bool, true, false, cond, eqb, ◌&&◌, List, length, get_or}
use Rattle.std.proofs.Common.{Option, Some, None, refl, sym, ap, ◌∙◌, arith}
use Rattle.std.specs.List.{All}
use Rattle.std.proofs.lemmas.Bool.{cond-true, cond-false, eq-eqb, ne_eqb}
use Rattle.std.proofs.lemmas.List.{ext_get_or, length-replicate}
use Rattle.std.proofs.lemmas.List.FromFn.{get_or-map-range_with_len, length-map-range_with_len}
use Rattle.migration_model.specs.Final.{IsFinalCopy, current_copy}
use Rattle.migration_model.specs.Frames.{GuestShape}
use Rattle.migration_model.specs.Parts.{Agree, PageCopy, GuestPart, IsPart, copy_at, empty_part, later, join, join_all}
use Rattle.migration_model.specs.Trace.{GuestTrace}
use Rattle.migration_model.proofs.Parts.{later-nothing, later-exchanged, get_or-later_each, length-later_each}
use Rattle.migration_model.proofs.Parts.{same_part}
use Rattle.migration_model.proofs.Current.{shape-joined}
use Rattle.stream_receivers.specs.Current.{current_part}
use Rattle.stream_receivers.proofs.Joins.{length_joined, comes_last, comes_to}

-- the current copy of a page, if it is marked
abbrev current_at : GuestTrace → List ℕ → (ℕ → Bool) → ℕ → Option PageCopy
current_at trace versions marked page = cond (marked page) (Some (current_copy trace versions page)) None

current_is : (trace : GuestTrace) (shape : GuestShape) (versions : List ℕ) (marked : ℕ → Bool) (p : ℕ) → p < shape.pages
    → copy_at (current_part trace shape versions marked) p ≡ current_at trace versions marked p
current_is trace shape versions marked p low = get_or-map-range_with_len (current_at trace versions marked) 0
    shape.pages p p None low (omega arith)

-- what the joined parts have for a page, by whether it is marked
at_page : (trace : GuestTrace) (shape : GuestShape) (versions : List ℕ) (marked : ℕ → Bool) (old new : List GuestPart)
    (p : ℕ) (b : Bool) → marked p ≡ b → p < shape.pages
    → All (λ part. Agree part (current_part trace shape versions marked)) old
    → IsFinalCopy trace versions marked old new
    → copy_at (join_all shape new) p ≡ later (copy_at (join_all shape old) p)
    (cond b (Some (current_copy trace versions p)) None)
at_page trace shape versions marked old new p true is low agree copied =
    let d : GuestPart = empty_part shape in
    let c : PageCopy = current_copy trace versions p in
    let k = copied.receiver p in
    let there : k < length old = copied.received p is in
    let takes : (marked p && eqb k k) ≡ true = ap (λ b. b && eqb k k) is ∙ eq-eqb k k refl in
    let cur : copy_at (current_part trace shape versions marked) p ≡ Some c =
    current_is trace shape versions marked p low ∙ cond-true (marked p) (Some c) None is in
    comes_to d p (Some c) new old d d k copied.count there
    ((copied.each k d there).copies p ∙ cond-true _ (later (copy_at (get_or old k d) p) (Some c))
    (copy_at (get_or old k d) p) takes)
    (λ i here apart.
    let leaves : (marked p && eqb k i) ≡ false = ap (λ b. b && eqb k i) is ∙ ne_eqb k i (λ same. apart (sym same)) in
    (copied.each i d here).copies p ∙ cond-false _ (later (copy_at (get_or old i d) p) (Some c))
    (copy_at (get_or old i d) p) leaves)
    (λ i here. later-exchanged (copy_at (get_or old i d) p) (Some c)
    (λ x y at_x at_y stamp. (agree i d here).copies p x y at_x (cur ∙ at_y) stamp))
    refl
at_page trace shape versions marked old new p false is low agree copied =
    let d : GuestPart = empty_part shape in
    comes_last d p None new old d d copied.count
    (λ i here.
    let leaves : (marked p && eqb (copied.receiver p) i) ≡ false = ap (λ b. b && eqb (copied.receiver p) i) is in
    (copied.each i d here).copies p
    ∙ cond-false _ (later (copy_at (get_or old i d) p) (Some (current_copy trace versions p)))
    (copy_at (get_or old i d) p) leaves)
    (λ i here. later-nothing (copy_at (get_or old i d) p)) (sym (later-nothing (copy_at d p)))

pub final_joined : (trace : GuestTrace) (shape : GuestShape) (versions : List ℕ) (marked : ℕ → Bool)
    (old new : List GuestPart) → All IsPart old
    → All (λ part. Agree part (current_part trace shape versions marked)) old
    → IsFinalCopy trace versions marked old new
    → join_all shape new ≡ join (join_all shape old) (current_part trace shape versions marked)
final_joined trace shape versions marked old new are agree copied =
    let cur = current_part trace shape versions marked in
    let joined_old = join_all shape old in
    let joined_new = join_all shape new in
    let empty : length (empty_part shape).copies ≡ shape.pages = length-replicate shape.pages None in
    let olds : All (λ part. length part.copies ≡ shape.pages) old =
    λ i d low. (are i d low).places ∙ ap (λ (s : GuestShape). s.pages) (agree i d low).shape in
    let news : All (λ part. length part.copies ≡ shape.pages) new =
    λ i d low.
    let here : i < length old = omega (arith, low, copied.count) in
    (copied.each i d here).is_part.places ∙ ap (λ (s : GuestShape). s.pages)
    ((copied.each i d here).shape ∙ (agree i d here).shape) in
    let len_old : length joined_old.copies ≡ shape.pages = length_joined shape.pages (empty_part shape) old empty
    olds in
    let len_new : length joined_new.copies ≡ shape.pages = length_joined shape.pages (empty_part shape) new empty
    news in
    let len_cur : length cur.copies ≡ shape.pages = length-map-range_with_len (current_at trace versions marked) 0
    shape.pages in
    same_part joined_new (join joined_old cur) (shape-joined (empty_part shape) new
    ∙ sym (shape-joined (empty_part shape) old))
    (ext_get_or None joined_new.copies (join joined_old cur).copies
    (len_new ∙ sym (length-later_each joined_old.copies cur.copies (len_old ∙ sym len_cur) ∙ len_old))
    (λ p low.
    let within : p < shape.pages = omega (arith, low, len_new) in
    at_page trace shape versions marked old new p (marked p) refl within agree copied
    ∙ ap (later (copy_at joined_old p)) (sym (current_is trace shape versions marked p within))
    ∙ sym (get_or-later_each joined_old.copies cur.copies p)))
