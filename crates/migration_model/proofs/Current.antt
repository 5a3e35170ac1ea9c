-- Memory made of honest parts that have the current copy of every page.
use Rattle.std.proofs.Common.{◌≡◌, ℕ, inl, inr, zero, suc, ◌+◌, ◌-◌, ◌*◌, ◌^◌, ◌<◌, ◌≤◌, List, [], ◌∷◌, ◌++◌, length}
use Rattle.std.proofs.Common.{take, drop, get_or, Option, Some, None, IfSome, IsSomeAnd, refl, sym, ap}
use Rattle.std.proofs.Common.{subst, ◌∙◌, arith}
use Rattle.std.specs.List.{All, fold, flat_map, between, range_with_len}
use Rattle.std.proofs.Math.Seq.{drop-append-add, take-append_seam}
use Rattle.std.proofs.lemmas.Bool.{cases_lt}
use Rattle.std.proofs.lemmas.List.{get_or_default, length-append}
use Rattle.std.proofs.lemmas.List.Elements.{All-head, All-tail}
use Rattle.migration_model.specs.Frames.{GuestShape}
use Rattle.migration_model.specs.Final.{shape_of_trace}
use Rattle.migration_model.specs.Memory.{image_before, page_of}
use Rattle.migration_model.specs.Trace.{GuestTrace, IsTrace}
use Rattle.migration_model.specs.Versions.{page_at, version_before}
use Rattle.migration_model.specs.Parts.{PageCopy, GuestPart, copy_at, IsCopy, empty_part, later, join, join_all}
use Rattle.migration_model.specs.Parts.{IsHonest}
use Rattle.migration_model.specs.Images.{bytes_of, memory_in, bytes_of_first, HaveFirst, LacksFirst, AreCurrent}
use Rattle.migration_model.proofs.Pages.{memory_before}
use Rattle.migration_model.proofs.Parts.{get_or-later_each, later_first, later_second}
use Rattle.migration_model.proofs.Lists.{get_or-replicate_default}

-- the copy is no later than this one, and is this one if the stamps are equal
record Below (size stamp : ℕ) (content : List ℕ) (c : PageCopy) : Type 0 where
  pub stamp_low : c.stamp ≤ stamp
  pub same : c.stamp ≡ stamp → c.content ≡ content
  pub size_is : length c.content ≡ size

-- the copy is this one
record Is (size stamp : ℕ) (content : List ℕ) (c : PageCopy) : Type 0 where
  pub content_is : c.content ≡ content
  pub stamp_is : c.stamp ≡ stamp
  pub size_is : length c.content ≡ size

abbrev IsLow : ℕ → ℕ → List ℕ → Option PageCopy → Type 0
IsLow size stamp content o = IfSome o (Below size stamp content)

abbrev IsThis : ℕ → ℕ → List ℕ → Option PageCopy → Type 0
IsThis size stamp content o = IsSomeAnd o (Is size stamp content)

low_later : (n s : ℕ) (w : List ℕ) (a b : Option PageCopy) → IsLow n s w a → IsLow n s w b → IsLow n s w (later a b)
low_later n s w None b low_a low_b = low_b
low_later n s w (Some a) None low_a low_b = low_a
low_later n s w (Some a) (Some b) low_a low_b = elim (cases_lt a.stamp b.stamp) [
  | inl lt ↦ subst (IsLow n s w) (sym (later_second a b lt)) low_b
  | inr le ↦ subst (IsLow n s w) (sym (later_first a b le)) low_a
]

this_first : (n s : ℕ) (w : List ℕ) (a b : Option PageCopy) → IsThis n s w a → IsLow n s w b → IsThis n s w (later a b)
this_first n s w None b is low = absurd is
this_first n s w (Some a) None is low = is
this_first n s w (Some a) (Some b) is low = subst (IsThis n s w)
    (sym (later_first a b (omega (arith, is.stamp_is, low.stamp_low)))) is

this_second : (n s : ℕ) (w : List ℕ) (a b : Option PageCopy) → IsLow n s w a → IsThis n s w b → IsThis n s w (later a b)
this_second n s w None b low is = is
this_second n s w (Some a) None low is = absurd is
this_second n s w (Some a) (Some b) low is = elim (cases_lt a.stamp b.stamp) [
  | inl lt ↦ subst (IsThis n s w) (sym (later_second a b lt)) is
  | inr le ↦
      let same : a.stamp ≡ s = omega (arith, le, is.stamp_is, low.stamp_low) in
      let this : IsThis n s w (Some a) = record {
        content_is = low.same same;
        stamp_is = same;
        size_is =
            low.size_is;
      } in
      subst (IsThis n s w) (sym (later_first a b le)) this
]

this_stays : (n s p : ℕ) (w : List ℕ) (first : GuestPart) (parts : List GuestPart) → IsThis n s w (copy_at first p)
    → All (λ part. IsLow n s w (copy_at part p)) parts → IsThis n s w (copy_at (fold join first parts) p)
this_stays n s p w first [] is low = is
this_stays n s p w first (part ∷ parts) is low =
    this_stays n s p w (join first part) parts
    (subst (IsThis n s w) (sym (get_or-later_each first.copies part.copies p))
    (this_first n s w (copy_at first p) (copy_at part p) is (All-head (λ (q : GuestPart). IsLow n s w (copy_at q p))
    part parts low)))
    (All-tail (λ (q : GuestPart). IsLow n s w (copy_at q p)) part parts low)

this_comes : (n s p : ℕ) (w : List ℕ) (first : GuestPart) (parts : List GuestPart) (k : ℕ)
    → IsLow n s w (copy_at first p)
    → All (λ part. IsLow n s w (copy_at part p)) parts → k < length parts
    → IsThis n s w (copy_at (get_or parts k first) p)
    → IsThis n s w (copy_at (fold join first parts) p)
this_comes n s p w first [] k low lows within is = absurd (omega arith)
this_comes n s p w first (part ∷ parts) zero low lows within is =
    this_stays n s p w (join first part) parts
    (subst (IsThis n s w) (sym (get_or-later_each first.copies part.copies p))
    (this_second n s w (copy_at first p) (copy_at part p) low is))
    (All-tail (λ (q : GuestPart). IsLow n s w (copy_at q p)) part parts lows)
this_comes n s p w first (part ∷ parts) (suc k) low lows within is =
    this_comes n s p w (join first part) parts k
    (subst (IsLow n s w) (sym (get_or-later_each first.copies part.copies p))
    (low_later n s w (copy_at first p) (copy_at part p) low (All-head (λ (q : GuestPart). IsLow n s w (copy_at q p))
    part parts lows)))
    (All-tail (λ (q : GuestPart). IsLow n s w (copy_at q p)) part parts lows)
    (omega arith)
    (subst (λ (q : GuestPart). IsThis n s w (copy_at q p)) (get_or_default parts k first (join first part)
    (omega arith)) is)

-- the p-th piece of equal pieces
pub piece_at : (f : ℕ → List ℕ) (size a n p : ℕ) → p < n → ((q : ℕ) → q < a + n → length (f q) ≡ size)
    → take size (drop (p * size) (flat_map f (range_with_len a n))) ≡ f (a + p)
piece_at f size a zero p low sizes = absurd (omega arith)
piece_at f size a (suc n) zero low sizes =
    let none : 0 * size ≡ 0 = omega arith in
    ap (λ k. take size (drop k (f a ++ flat_map f (range_with_len (a + 1) n)))) none
    ∙ ap (λ k. take k (f a ++ flat_map f (range_with_len (a + 1) n))) (sym (sizes a (omega arith)))
    ∙ take-append_seam (f a) (flat_map f (range_with_len (a + 1) n))
    ∙ ap f (omega arith)
piece_at f size a (suc n) (suc p) low sizes =
    let rest = flat_map f (range_with_len (a + 1) n) in
    let far : suc p * size ≡ length (f a) + p * size = omega (arith, sizes a (omega arith)) in
    ap (λ k. take size (drop k (f a ++ rest))) far
    ∙ ap (take size) (drop-append-add (f a) rest (p * size))
    ∙ piece_at f size (a + 1) n p (omega arith) (λ q below. sizes q (omega arith))
    ∙ ap f (omega arith)

length_pieces : (f : ℕ → List ℕ) (size a n : ℕ) → ((q : ℕ) → q < a + n → length (f q) ≡ size)
    → length (flat_map f (range_with_len a n)) ≡ n * size
length_pieces f size a zero sizes = omega arith
length_pieces f size a (suc n) sizes =
    let rest = flat_map f (range_with_len (a + 1) n) in
    omega (
      arith,
      length-append (f a) rest,
      sizes a (omega arith),
      length_pieces f size (a + 1) n (λ q low. sizes q (omega (arith, low))),
    )

bytes_of_this : (n s : ℕ) (w : List ℕ) (o : Option PageCopy) → IsThis n s w o → bytes_of o ≡ w
bytes_of_this n s w None is = absurd is
bytes_of_this n s w (Some c) is = is.content_is

size_of_this : (n s : ℕ) (w : List ℕ) (o : Option PageCopy) → IsThis n s w o → length (bytes_of o) ≡ n
size_of_this n s w None is = absurd is
size_of_this n s w (Some c) is = is.size_is

this_from_low : (n s : ℕ) (w : List ℕ) (o : Option PageCopy) → IsLow n s w o → IsSomeAnd o (λ c. c.stamp ≡ s)
    → IsThis n s w o
this_from_low n s w None low is = absurd is
this_from_low n s w (Some c) low is = record { content_is = low.same is; stamp_is = is; size_is = low.size_is }

low_from : (trace : GuestTrace) (shape : GuestShape) (part : GuestPart) (p s : ℕ) (o : Option PageCopy)
    → IsHonest trace part → copy_at part p ≡ o
    → IfSome o (IsCopy shape) → IfSome o (λ c. c.stamp ≤ s) → IsLow (2 ^ shape.shift) s (page_at trace p s) o
low_from trace shape part p s None honest at copy bound = bound
low_from trace shape part p s (Some c) honest at copy bound =
    record { stamp_low = bound; same = λ same. honest p c at ∙ ap (page_at trace p) same; size_is = copy.content }

abbrev none_copy : Option PageCopy
none_copy = None

low_none : (n s : ℕ) (w : List ℕ) → IsLow n s w None
low_none n s w = tt

low_at_first : (shape : GuestShape) (n s p : ℕ) (w : List ℕ) → IsLow n s w (copy_at (empty_part shape) p)
low_at_first shape n s p w = subst (IsLow n s w) (sym (get_or-replicate_default shape.pages p none_copy))
    (low_none n s w)

pub shape-joined : (first : GuestPart) (parts : List GuestPart) → (fold join first parts).shape ≡ first.shape
shape-joined first [] = refl
shape-joined first (part ∷ parts) = shape-joined (join first part) parts

lows : (trace : GuestTrace) (shape : GuestShape) (versions : List ℕ) (parts : List GuestPart) (p : ℕ)
    → AreCurrent trace shape versions parts
    → All (λ part. IsLow (2 ^ shape.shift) (get_or versions p 0) (page_at trace p (get_or versions p 0))
    (copy_at part p)) parts
lows trace shape versions parts p are k d low =
    let part = get_or parts k d in
    low_from trace shape part p (get_or versions p 0) (copy_at part p) (are.not_beyond.honest k d low) refl
    (subst (λ (s : GuestShape). IfSome (copy_at part p) (IsCopy s)) (are.not_beyond.shapes k d low)
    ((are.not_beyond.are_parts k d low).copies p))
    (are.not_beyond.bound p k d low)

joined_this : (trace : GuestTrace) (shape : GuestShape) (versions : List ℕ) (parts : List GuestPart) (p : ℕ)
    → AreCurrent trace shape versions parts → p < shape.pages
    → IsThis (2 ^ shape.shift) (get_or versions p 0) (page_at trace p (get_or versions p 0))
    (copy_at (join_all shape parts) p)
joined_this trace shape versions parts p are low =
    let n = 2 ^ shape.shift in
    let s = get_or versions p 0 in
    let w = page_at trace p s in
    let found = are.current p low in
    let first = empty_part shape in
    let all = lows trace shape versions parts p are in
    let part : found.1 ≡ get_or parts found.0 first = sym found.3
    ∙ get_or_default parts found.0 found.1 first found.2 in
    this_comes n s p w first parts found.0 (low_at_first shape n s p w) all found.2
    (this_from_low n s w (copy_at (get_or parts found.0 first) p) (all found.0 first found.2)
    (subst (λ (q : GuestPart). IsSomeAnd (copy_at q p) (λ c. c.stamp ≡ s)) part found.4))

pub current_page : (trace : GuestTrace) (shape : GuestShape) (versions : List ℕ) (parts : List GuestPart) (p : ℕ)
    → AreCurrent trace shape versions parts → p < shape.pages
    → page_of (memory_in (join_all shape parts)) p ≡ page_at trace p (get_or versions p 0)
current_page trace shape versions parts p are low =
    let joined = join_all shape parts in
    let n = 2 ^ shape.shift in
    let s = get_or versions p 0 in
    let f : ℕ → List ℕ = λ page. bytes_of (copy_at joined page) in
    let same : joined.shape ≡ shape = shape-joined (empty_part shape) parts in
    let front : 0 + p ≡ p = omega arith in
    let len : p * n + n - p * n ≡ n = omega arith in
    ap (λ (g : GuestShape). between (p * 2 ^ g.shift) (p * 2 ^ g.shift + 2 ^ g.shift) (bytes_of_first joined g.pages))
    same
    ∙ ap (λ k. take k (drop (p * n) (bytes_of_first joined shape.pages))) len
    ∙ piece_at f n 0 shape.pages p low (λ q below. size_of_this n (get_or versions q 0)
    (page_at trace q (get_or versions q 0)) (copy_at joined q)
    (joined_this trace shape versions parts q are (omega arith)))
    ∙ ap f front
    ∙ bytes_of_this n s (page_at trace p s) (copy_at joined p) (joined_this trace shape versions parts p are low)

some_there : (o : Option PageCopy) (s : ℕ) → IsSomeAnd o (λ c. c.stamp ≡ s) → o ≡ None → ⊥
some_there None s is none = is
some_there (Some c) s is none = cc none

pub current_whole : (trace : GuestTrace) (shape : GuestShape) (versions : List ℕ) (parts : List GuestPart)
    → AreCurrent trace shape versions parts → HaveFirst parts shape.pages
current_whole trace shape versions parts are p low lacks =
    let found = are.current p low in
    some_there (copy_at found.1 p) (get_or versions p 0) found.4
    (ap (λ (q : GuestPart). copy_at q p) (sym found.3) ∙ lacks found.0 found.1 found.2)

-- memory made of such parts is as long as the guest's pages
current_sizes : (trace : GuestTrace) (shape : GuestShape) (versions : List ℕ) (parts : List GuestPart)
    → AreCurrent trace shape versions parts
    → length (memory_in (join_all shape parts)).bytes ≡ (memory_in (join_all shape parts)).pages * 2
    ^ (memory_in (join_all shape parts)).shift
current_sizes trace shape versions parts are =
    let joined = join_all shape parts in
    let same : joined.shape ≡ shape = shape-joined (empty_part shape) parts in
    length_pieces (λ page. bytes_of (copy_at joined page)) (2 ^ joined.shape.shift) 0 joined.shape.pages
    (λ q low. size_of_this (2 ^ joined.shape.shift) (get_or versions q 0) (page_at trace q (get_or versions q 0))
    (copy_at joined q)
    (subst (λ (s : GuestShape). IsThis (2 ^ s.shift) (get_or versions q 0) (page_at trace q (get_or versions q 0))
    (copy_at joined q)) (sym same)
    (joined_this trace shape versions parts q are (omega (arith, low, ap (λ (s : GuestShape). s.pages) same)))))

pub current_size : (trace : GuestTrace) (shape : GuestShape) (versions : List ℕ) (parts : List GuestPart)
    → AreCurrent trace shape versions parts
    → ((memory_in (join_all shape parts)).shift ≡ shape.shift)
    × ((memory_in (join_all shape parts)).pages ≡ shape.pages)
    × (length (memory_in (join_all shape parts)).bytes ≡ shape.pages * 2 ^ shape.shift)
current_size trace shape versions parts are =
    let same : (join_all shape parts).shape ≡ shape = shape-joined (empty_part shape) parts in (
      ap (λ (s : GuestShape). s.shift) same,
      ap (λ (s : GuestShape). s.pages) same,
      current_sizes trace shape versions parts are ∙ ap (λ (s : GuestShape). s.pages * 2 ^ s.shift) same,
    )

pub current_before : (trace : GuestTrace) (versions : List ℕ) (parts : List GuestPart) (tick : ℕ) → IsTrace trace
    → AreCurrent trace (shape_of_trace trace) versions parts
    → ((page : ℕ) → page < trace.pages → get_or versions page 0 ≡ version_before trace page tick)
    → memory_in (join_all (shape_of_trace trace) parts) ≡ image_before trace tick
current_before trace versions parts tick is are at =
    let shape = shape_of_trace trace in
    let same : (join_all shape parts).shape ≡ shape = shape-joined (empty_part shape) parts in
    memory_before trace (memory_in (join_all shape parts)) tick is (ap (λ (s : GuestShape). s.shift) same)
    (ap (λ (s : GuestShape). s.pages) same)
    (current_sizes trace shape versions parts are)
    (λ page low. current_page trace shape versions parts page are low ∙ ap (page_at trace page) (at page low))

-- of the pages that no part has, one is the first
pub one_lacking_lem : (shape : GuestShape) (parts : List GuestPart) (m n : ℕ) → LacksFirst shape parts m
    → LacksFirst shape parts n → m ≡ n
one_lacking_lem shape parts m n first_m first_n = elim (cases_lt m n) [
  | inl lt ↦ absurd (first_n.first m lt first_m.lacks)
  | inr ge ↦ elim (cases_lt n m) [
    | inl lt ↦ absurd (first_m.first n lt first_n.lacks)
    | inr le ↦ omega (arith, ge, le)
  ]
]
