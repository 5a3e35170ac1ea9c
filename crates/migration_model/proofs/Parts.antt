-- The join of parts, page by page.
use Rattle.std.proofs.Common.{◌⊎◌, ◌≡◌, ℕ, inl, inr, zero, suc, ◌<◌, ◌≤◌, ltb, List, [], ◌∷◌, length, replicate, get_or}
use Rattle.std.proofs.Common.{set, Option, Some, None, refl, sym, ap, ◌∙◌, arith}
use Rattle.std.proofs.lemmas.Bool.{cases_lt, cases_order, lt-ltb, le-ltb, cond-true, cond-false}
use Rattle.migration_model.specs.Frames.{PageFrame}
use Rattle.migration_model.specs.Trace.{GuestTrace}
use Rattle.migration_model.specs.Versions.{page_at}
use Rattle.migration_model.specs.Parts.{IsHonest, PageCopy, GuestPart, part_with, later, later_each, join, copy_in}
use Rattle.migration_model.specs.Parts.{part_of, with_frame, Agree, copy_at}

-- the later of two copies by their stamps
pub later_second : (a b : PageCopy) → a.stamp < b.stamp → later (Some a) (Some b) ≡ Some b
later_second a b lt = cond-true (ltb a.stamp b.stamp) (Some b) (Some a) (lt-ltb a.stamp b.stamp lt)

pub later_first : (a b : PageCopy) → b.stamp ≤ a.stamp → later (Some a) (Some b) ≡ Some a
later_first a b le = cond-false (ltb a.stamp b.stamp) (Some b) (Some a) (le-ltb a.stamp b.stamp le)

pub later-nothing : (a : Option PageCopy) → later a None ≡ a
later-nothing None = refl
later-nothing (Some a) = refl

pub later-later : (a b c : Option PageCopy) → later (later a b) c ≡ later a (later b c)
later-later None b c = refl
later-later (Some a) None c = refl
later-later (Some a) (Some b) None = later-nothing (later (Some a) (Some b))
later-later (Some a) (Some b) (Some c) = elim (cases_lt a.stamp b.stamp) [
  | inl ab ↦ elim (cases_lt b.stamp c.stamp) [
    | inl bc ↦ rw (later_second a b ab, later_second b c bc) (sym (later_second a c (omega arith)))
    | inr cb ↦ rw (later_second a b ab, later_first b c cb) (sym (later_second a b ab))
  ]
  | inr ba ↦ elim (cases_lt b.stamp c.stamp) [
    | inl bc ↦ rw (later_first a b ba, later_second b c bc) refl
    | inr cb ↦ rw (later_first a b ba, later_first b c cb) (later_first a c (omega arith) ∙ sym (later_first a b ba))
  ]
]

pub later-itself : (a : Option PageCopy) → later a a ≡ a
later-itself None = refl
later-itself (Some a) = later_first a a (omega arith)

pub later-exchanged : (a b : Option PageCopy) → ((c d : PageCopy) → a ≡ Some c → b ≡ Some d → c.stamp ≡ d.stamp → c ≡ d)
    → later a b ≡ later b a
later-exchanged None b agree = sym (later-nothing b)
later-exchanged (Some a) None agree = refl
later-exchanged (Some a) (Some b) agree = elim (cases_order a.stamp b.stamp) [
  | inl same ↦ later_first a b (omega arith) ∙ ap (λ (c : PageCopy). Some c) (agree a b refl refl same)
      ∙ sym (later_first b a (omega arith))
  | inr other ↦ elim other [
    | inl lt ↦ later_second a b lt ∙ sym (later_first b a (omega arith))
    | inr gt ↦ later_first a b (omega arith) ∙ sym (later_second b a gt)
  ]
]

pub later_each-nothing : (xs : List (Option PageCopy)) → later_each xs [] ≡ xs
later_each-nothing [] = refl
later_each-nothing (x ∷ xs) = refl

later_each-later_each : (xs ys zs : List (Option PageCopy)) → later_each (later_each xs ys) zs
    ≡ later_each xs (later_each ys zs)
later_each-later_each [] ys zs = refl
later_each-later_each (x ∷ xs) [] zs = refl
later_each-later_each (x ∷ xs) (y ∷ ys) [] = refl
later_each-later_each (x ∷ xs) (y ∷ ys) (z ∷ zs) = λ i. later-later x y z i ∷ later_each-later_each xs ys zs i

later_each-itself : (xs : List (Option PageCopy)) → later_each xs xs ≡ xs
later_each-itself [] = refl
later_each-itself (x ∷ xs) = λ i. later-itself x i ∷ later_each-itself xs i

later_each-exchanged : (xs ys : List (Option PageCopy))
    → ((page : ℕ) (c d : PageCopy) → get_or xs page None ≡ Some c → get_or ys page None ≡ Some d → c.stamp ≡ d.stamp
    → c ≡ d)
    → later_each xs ys ≡ later_each ys xs
later_each-exchanged [] ys agree = sym (later_each-nothing ys)
later_each-exchanged (x ∷ xs) [] agree = refl
later_each-exchanged (x ∷ xs) (y ∷ ys) agree =
    λ i. later-exchanged x y (agree 0) i ∷ later_each-exchanged xs ys (λ page. agree (suc page)) i

-- parts are equal if their fields are
pub same_part : (a b : GuestPart) → a.shape ≡ b.shape → a.copies ≡ b.copies → a ≡ b
same_part a b shape copies = λ i. record { shape = shape i; copies = copies i }

pub join-join : (a b c : GuestPart) → join (join a b) c ≡ join a (join b c)
join-join a b c = ap (part_with a.shape) (later_each-later_each a.copies b.copies c.copies)

pub join-exchanged : (a b : GuestPart) → Agree a b → join a b ≡ join b a
join-exchanged a b agree = same_part (join a b) (join b a) agree.shape
    (later_each-exchanged a.copies b.copies agree.copies)

pub join-itself : (a : GuestPart) → join a a ≡ a
join-itself a = same_part (join a a) a refl (later_each-itself a.copies)

pub later_each-nones : (xs : List (Option PageCopy)) (n : ℕ) → length xs ≡ n → later_each xs (replicate n None) ≡ xs
later_each-nones [] zero len = refl
later_each-nones [] (suc n) len = absurd (omega arith)
later_each-nones (x ∷ xs) zero len = absurd (omega arith)
later_each-nones (x ∷ xs) (suc n) len = λ i. later-nothing x i ∷ later_each-nones xs n (omega arith) i

-- one more page is the join with the part that has only that page
later_each-set : (xs : List (Option PageCopy)) (n page : ℕ) (x : Option PageCopy) → length xs ≡ n → page < n
    → later_each xs (set (replicate n None) page x) ≡ set xs page (later (get_or xs page None) x)
later_each-set [] n page x len low = absurd (omega arith)
later_each-set (y ∷ ys) zero page x len low = absurd (omega arith)
later_each-set (y ∷ ys) (suc n) zero x len low = λ i. later y x ∷ later_each-nones ys n (omega arith) i
later_each-set (y ∷ ys) (suc n) (suc page) x len low = λ i. later-nothing y i
    ∷ later_each-set ys n page x (omega arith) (omega arith) i

pub with_frame_joins_lem : (part : GuestPart) (frame : PageFrame) → length part.copies ≡ part.shape.pages
    → frame.page < part.shape.pages
    → with_frame part frame ≡ join part (part_of part.shape frame)
with_frame_joins_lem part frame len low =
    ap (part_with part.shape) (sym (later_each-set part.copies part.shape.pages frame.page
    (Some (copy_in part.shape frame)) len low))

-- ---- what a join has of a page

pub get_or-later_each : (xs ys : List (Option PageCopy)) (page : ℕ)
    → get_or (later_each xs ys) page None ≡ later (get_or xs page None) (get_or ys page None)
get_or-later_each [] ys page = refl
get_or-later_each (x ∷ xs) [] page = sym (later-nothing (get_or (x ∷ xs) page None))
get_or-later_each (x ∷ xs) (y ∷ ys) zero = refl
get_or-later_each (x ∷ xs) (y ∷ ys) (suc page) = get_or-later_each xs ys page

-- what a join has of a page
pub copy_at-join : (a b : GuestPart) (page : ℕ) → copy_at (join a b) page ≡ later (copy_at a page) (copy_at b page)
copy_at-join a b page = get_or-later_each a.copies b.copies page

pub length-later_each : (xs ys : List (Option PageCopy)) → length xs ≡ length ys → length (later_each xs ys) ≡ length xs
length-later_each [] ys same = sym same
length-later_each (x ∷ xs) [] same = refl
length-later_each (x ∷ xs) (y ∷ ys) same = ap suc (length-later_each xs ys (omega arith))

-- ---- honest parts

-- copies are equal if their fields are
pub same_copy : (c d : PageCopy) → c.stamp ≡ d.stamp → c.content ≡ d.content → c ≡ d
same_copy c d stamp content = λ i. record { stamp = stamp i; content = content i }

-- honest parts of one guest agree
pub Agree-from_honest : (trace : GuestTrace) (a b : GuestPart) → a.shape ≡ b.shape → IsHonest trace a → IsHonest trace b
    → Agree a b
Agree-from_honest trace a b shape honest_a honest_b =
    record {
      shape = shape;
      copies = λ page c d at_a at_b stamp. same_copy c d stamp
          (honest_a page c at_a ∙ ap (page_at trace page) stamp ∙ sym (honest_b page d at_b));
    }

pub later_one : (a b : Option PageCopy) (c : PageCopy) → later a b ≡ Some c → (a ≡ Some c) ⊎ (b ≡ Some c)
later_one None b c is = inr is
later_one (Some a) None c is = inl is
later_one (Some a) (Some b) c is = elim (cases_lt a.stamp b.stamp) [
  | inl lt ↦ inr (sym (later_second a b lt) ∙ is)
  | inr le ↦ inl (sym (later_first a b le) ∙ is)
]

-- the join of honest parts is honest
pub IsHonest-join : (trace : GuestTrace) (a b : GuestPart) → IsHonest trace a → IsHonest trace b
    → IsHonest trace (join a b)
IsHonest-join trace a b honest_a honest_b page c is =
    elim (later_one (get_or a.copies page None) (get_or b.copies page None) c
    (sym (get_or-later_each a.copies b.copies page) ∙ is)) [
      | inl first ↦ honest_a page c first
      | inr second ↦ honest_b page c second
    ]
