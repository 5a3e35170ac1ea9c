-- The join of many parts, page by page.
use Rattle.std.proofs.Common.{◌≡◌, ℕ, zero, suc, ◌<◌, List, [], ◌∷◌, length, get_or, Option, sym, ap}
use Rattle.std.proofs.Common.{◌∙◌, arith}
use Rattle.std.specs.List.{All, fold}
use Rattle.std.proofs.lemmas.List.Elements.{All-head, All-tail}
use Rattle.migration_model.specs.Parts.{PageCopy, GuestPart, copy_at, later, join}
use Rattle.migration_model.proofs.Parts.{later-later, length-later_each, copy_at-join}

pub length_joined : (n : ℕ) (first : GuestPart) (parts : List GuestPart) → length first.copies ≡ n
    → All (λ part. length part.copies ≡ n) parts
    → length (fold join first parts).copies ≡ n
length_joined n first [] len lens = len
length_joined n first (part ∷ parts) len lens =
    let one : length part.copies ≡ n = All-head (λ (q : GuestPart). length q.copies ≡ n) part parts lens in
    length_joined n (join first part) parts (length-later_each first.copies part.copies (len ∙ sym one) ∙ len)
    (All-tail (λ (q : GuestPart). length q.copies ≡ n) part parts lens)

-- a copy that came first may as well come last
pub comes_last : (d : GuestPart) (p : ℕ) (c : Option PageCopy) (news olds : List GuestPart) (after before : GuestPart)
    → length news ≡ length olds
    → ((i : ℕ) → i < length olds → copy_at (get_or news i d) p ≡ copy_at (get_or olds i d) p)
    → ((i : ℕ) → i < length olds → later (copy_at (get_or olds i d) p) c ≡ later c (copy_at (get_or olds i d) p))
    → copy_at after p ≡ later (copy_at before p) c
    → copy_at (fold join after news) p ≡ later (copy_at (fold join before olds) p) c
comes_last d p c [] [] after before len same exchanged at = at
comes_last d p c [] (old ∷ olds) after before len same exchanged at = absurd (omega (arith, len))
comes_last d p c (new ∷ news) [] after before len same exchanged at = absurd (omega (arith, len))
comes_last d p c (new ∷ news) (old ∷ olds) after before len same exchanged at =
    let step : copy_at (join after new) p ≡ later (copy_at (join before old) p) c =
    copy_at-join after new p
    ∙ ap (λ (o : Option PageCopy). later o (copy_at new p)) at
    ∙ ap (later (later (copy_at before p) c)) (same 0 (omega arith))
    ∙ later-later (copy_at before p) c (copy_at old p)
    ∙ ap (later (copy_at before p)) (sym (exchanged 0 (omega arith)))
    ∙ sym (later-later (copy_at before p) (copy_at old p) c)
    ∙ ap (λ (o : Option PageCopy). later o c) (sym (copy_at-join before old p)) in
    comes_last d p c news olds (join after new) (join before old) (omega (arith, len))
    (λ i low. same (suc i) (omega (arith, low)))
    (λ i low. exchanged (suc i) (omega (arith, low))) step

-- so may one that comes to the part with this number
pub comes_to : (d : GuestPart) (p : ℕ) (c : Option PageCopy) (news olds : List GuestPart) (after before : GuestPart)
    (k : ℕ) → length news ≡ length olds
    → k < length olds → copy_at (get_or news k d) p ≡ later (copy_at (get_or olds k d) p) c
    → ((i : ℕ) → i < length olds → (i ≡ k → ⊥) → copy_at (get_or news i d) p ≡ copy_at (get_or olds i d) p)
    → ((i : ℕ) → i < length olds → later (copy_at (get_or olds i d) p) c ≡ later c (copy_at (get_or olds i d) p))
    → copy_at after p ≡ copy_at before p
    → copy_at (fold join after news) p ≡ later (copy_at (fold join before olds) p) c
comes_to d p c [] [] after before k len low takes same exchanged at = absurd (omega (arith, low))
comes_to d p c [] (old ∷ olds) after before k len low takes same exchanged at = absurd (omega (arith, len))
comes_to d p c (new ∷ news) [] after before k len low takes same exchanged at = absurd (omega (arith, low))
comes_to d p c (new ∷ news) (old ∷ olds) after before zero len low takes same exchanged at =
    let step : copy_at (join after new) p ≡ later (copy_at (join before old) p) c =
    copy_at-join after new p
    ∙ ap (λ (o : Option PageCopy). later o (copy_at new p)) at
    ∙ ap (later (copy_at before p)) takes
    ∙ sym (later-later (copy_at before p) (copy_at old p) c)
    ∙ ap (λ (o : Option PageCopy). later o c) (sym (copy_at-join before old p)) in
    comes_last d p c news olds (join after new) (join before old) (omega (arith, len))
    (λ i there. same (suc i) (omega (arith, there)) (λ is. omega (arith, is)))
    (λ i there. exchanged (suc i) (omega (arith, there))) step
comes_to d p c (new ∷ news) (old ∷ olds) after before (suc k) len low takes same exchanged at =
    let step : copy_at (join after new) p ≡ copy_at (join before old) p =
    copy_at-join after new p
    ∙ ap (λ (o : Option PageCopy). later o (copy_at new p)) at
    ∙ ap (later (copy_at before p)) (same 0 (omega arith) (λ is. omega (arith, is)))
    ∙ sym (copy_at-join before old p) in
    comes_to d p c news olds (join after new) (join before old) k (omega (arith, len)) (omega (arith, low)) takes
    (λ i there apart. same (suc i) (omega (arith, there)) (λ is. apart (omega (arith, is))))
    (λ i there. exchanged (suc i) (omega (arith, there))) step
