-- What the destination began with joins what arrived on the first stream.
use Rattle.std.proofs.Common.{◌≡◌, ℕ, zero, suc, ◌≤◌, inl, inr, List, [], ◌∷◌, get_or, refl, sym, ap}
use Rattle.std.proofs.Common.{subst, ◌∙◌, arith}
use Rattle.std.specs.Prelude.{Option, Some, None, IfSome, IsSomeAnd, option_map, slice_get}
use Rattle.std.specs.List.{All}
use Rattle.std.proofs.lemmas.Bool.{cases_lt}
use Rattle.std.proofs.lemmas.List.Elements.{All-head, All-tail}
use Rattle.std.proofs.lemmas.Option.{none-some, same_Some}
use Rattle.migration_model.specs.Trace.{GuestTrace, IsTrace}
use Rattle.migration_model.specs.Versions.{version_before}
use Rattle.migration_model.specs.Frames.{GuestShape}
use Rattle.migration_model.specs.Parts.{GuestPart, PageCopy, IsCopy, IsPart, IsHonest, copy_at, join, later}
use Rattle.migration_model.specs.Images.{AreNotBeyond, HaveCurrent}
use Rattle.migration_model.specs.Final.{shape_of_trace}
use Rattle.migration_model.specs.Warm.{first_part}
use Rattle.migration_model.proofs.Parts.{IsHonest-join, later_first, later_one, later_second}
use Rattle.migration_model.proofs.Parts.{length-later_each, copy_at-join}
use Rattle.migration_model.proofs.Warm.{first_copy, first_had, first_shape, is_first_part}
use Rattle.migration_model.proofs.Lists.{if_some}
use Rattle.dirty_words.specs.Seats.{ClosedView}
use Rattle.live_engine.specs.Runs.{AllArrived, AllSentArrived}
use Rattle.stream_receivers.specs.First.{parts_with}
use Rattle.stream_receivers.proofs.Came.{later_comes}
use Rattle.live_engine.proofs.Each.{any_at, any_there}

from_if : (P : PageCopy → Type 0) (o : Option PageCopy) (copy : PageCopy) → IfSome o P → o ≡ Some copy → P copy
from_if P None copy holds is = absurd (none-some copy is)
from_if P (Some other) copy holds is = subst P (same_Some other copy is) holds

some_from : (P : PageCopy → Type 0) (o : Option PageCopy) (copy : PageCopy) → o ≡ Some copy → P copy → IsSomeAnd o P
some_from P o copy there holds = subst (λ q. IsSomeAnd q P) (sym there) holds

found_in : (P : PageCopy → Type 0) (o : Option PageCopy) → IsSomeAnd o P → (copy : PageCopy) × (o ≡ Some copy) × P copy
found_in P None is = absurd is
found_in P (Some copy) is = (copy, refl, is)

all_cons : {X : Type 0} (P : X → Type 0) (x : X) (xs : List X) → P x → All P xs → All P (x ∷ xs)
all_cons P x xs one rest zero d low = one
all_cons P x xs one rest (suc i) d low = rest i d (omega (arith, low))

-- ---- a page of a join

keeps_first : (a : PageCopy) (b : Option PageCopy) → (now : PageCopy) × (later (Some a) b ≡ Some now)
    × (a.stamp ≤ now.stamp)
keeps_first a None = (a, refl, omega arith)
keeps_first a (Some b) = elim (cases_lt a.stamp b.stamp) [
  | inl newer ↦ (b, later_second a b newer, omega (arith, newer))
  | inr older ↦ (a, later_first a b older, omega arith)
]

is_joined : (a b : GuestPart) → IsPart a → IsPart b → a.shape ≡ b.shape → IsPart (join a b)
is_joined a b is_a is_b same = record {
  shape = is_a.shape;
  places = length-later_each a.copies b.copies (is_a.places ∙ ap (λ (s : GuestShape). s.pages) same ∙ sym is_b.places)
      ∙ is_a.places;
  copies = λ page. if_some (copy_at (join a b) page)
      (λ copy there. elim (later_one (copy_at a page) (copy_at b page) copy (sym (copy_at-join a b page) ∙ there)) [
        | inl one ↦ from_if (IsCopy a.shape) (copy_at a page) copy (is_a.copies page) one
        | inr two ↦ subst (λ (s : GuestShape). IsCopy s copy) (sym same)
            (from_if (IsCopy b.shape) (copy_at b page) copy (is_b.copies page) two)
      ]);
}

-- ---- the parts of the streams

abbrev IsBelow : ℕ → PageCopy → Type 0
IsBelow version copy = copy.stamp ≤ version

module _ (trace : GuestTrace) (versions : List ℕ) (first part : GuestPart) (rest : List GuestPart)
    (before : AreNotBeyond trace (shape_of_trace trace) versions (part ∷ rest))
    (is_part : IsPart first) (shape : first.shape ≡ shape_of_trace trace) (honest : IsHonest trace first)
    (bound : (page : ℕ) → IfSome (copy_at first page) (IsBelow (get_or versions page 0))) where
  part_is : IsPart part
  part_is = All-head IsPart part rest before.are_parts

  same_shape : first.shape ≡ part.shape
  same_shape = shape ∙ sym (All-head (λ (p : GuestPart). p.shape ≡ shape_of_trace trace) part rest before.shapes)

  part_bound : (page : ℕ) → IfSome (copy_at part page) (IsBelow (get_or versions page 0))
  part_bound page = All-head (λ (p : GuestPart). IfSome (copy_at p page) (IsBelow (get_or versions page 0))) part rest
      (before.bound page)

  join_bound : (page : ℕ) → IfSome (copy_at (join first part) page) (IsBelow (get_or versions page 0))
  join_bound page = if_some (copy_at (join first part) page)
      (λ copy there. elim (later_one (copy_at first page) (copy_at part page) copy
      (sym (copy_at-join first part page) ∙ there)) [
        | inl one ↦ from_if (IsBelow (get_or versions page 0)) (copy_at first page) copy (bound page) one
        | inr two ↦ from_if (IsBelow (get_or versions page 0)) (copy_at part page) copy (part_bound page) two
      ])

  pub not_beyond_with : AreNotBeyond trace (shape_of_trace trace) versions (join first part ∷ rest)
  not_beyond_with = record {
    are_parts = all_cons IsPart (join first part) rest (is_joined first part is_part part_is same_shape)
        (All-tail IsPart part rest before.are_parts);
    shapes = all_cons (λ (p : GuestPart). p.shape ≡ shape_of_trace trace) (join first part) rest shape
        (All-tail (λ (p : GuestPart). p.shape ≡ shape_of_trace trace) part rest before.shapes);
    honest = all_cons (IsHonest trace) (join first part) rest
        (IsHonest-join trace first part honest (All-head (IsHonest trace) part rest before.honest))
        (All-tail (IsHonest trace) part rest before.honest);
    bound = λ page. all_cons (λ (p : GuestPart). IfSome (copy_at p page) (IsBelow (get_or versions page 0)))
        (join first part) rest (join_bound page)
        (All-tail (λ (p : GuestPart). IfSome (copy_at p page) (IsBelow (get_or versions page 0))) part rest
        (before.bound page));
  }

  -- the join has a page at its version if one of the two has it
  at_version : (page : ℕ) (now : PageCopy) → copy_at (join first part) page ≡ Some now
      → get_or versions page 0 ≤ now.stamp
      → HaveCurrent versions (join first part ∷ rest) page
  at_version page now there up =
      let down : now.stamp ≤ get_or versions page 0 = from_if (IsBelow (get_or versions page 0))
      (copy_at (join first part) page) now (join_bound page) there in
      any_at (λ (p : GuestPart). IsSomeAnd (copy_at p page) (λ copy. copy.stamp ≡ get_or versions page 0))
      (join first part ∷ rest) 0 (join first part) refl
      (some_from (λ copy. copy.stamp ≡ get_or versions page 0) (copy_at (join first part) page) now there
      (omega (arith, up, down)))

  pub first_current : (page : ℕ) (copy : PageCopy) → copy_at first page ≡ Some copy → copy.stamp
      ≡ get_or versions page 0 → HaveCurrent versions (join first part ∷ rest) page
  first_current page copy there stamp =
      let kept = keeps_first copy (copy_at part page) in
      at_version page kept.0 (copy_at-join first part page
      ∙ ap (λ (o : Option PageCopy). later o (copy_at part page)) there ∙ kept.1)
      (let up = kept.2 in omega (arith, stamp, up))

  part_current : (page : ℕ) (copy : PageCopy) → copy_at part page ≡ Some copy → copy.stamp ≡ get_or versions page 0
      → HaveCurrent versions (join first part ∷ rest) page
  part_current page copy there stamp =
      let kept = later_comes (copy_at first page) copy in
      at_version page kept.0 (copy_at-join first part page ∙ ap (later (copy_at first page)) there ∙ kept.1)
      (let up = kept.2 in omega (arith, stamp, up))

  at_index : (page i : ℕ) (p : GuestPart) → slice_get (part ∷ rest) i ≡ Some p
      → IsSomeAnd (copy_at p page) (λ copy. copy.stamp ≡ get_or versions page 0)
      → HaveCurrent versions (join first part ∷ rest) page
  at_index page zero p there has =
      let found = found_in (λ copy. copy.stamp ≡ get_or versions page 0) (copy_at p page) has in
      part_current page found.0 (ap (λ (q : GuestPart). copy_at q page) (same_Some part p there) ∙ found.1) found.2
  at_index page (suc i) p there has =
      any_at (λ (p : GuestPart). IsSomeAnd (copy_at p page) (λ copy. copy.stamp ≡ get_or versions page 0))
      (join first part ∷ rest) (suc i) p there has

  pub still_current : (page : ℕ) → HaveCurrent versions (part ∷ rest) page
      → HaveCurrent versions (join first part ∷ rest) page
  still_current page has =
      let found = any_there (λ (p : GuestPart). IsSomeAnd (copy_at p page)
      (λ copy. copy.stamp ≡ get_or versions page 0)) (part ∷ rest) has in
      at_index page found.0 found.1 found.2 found.3

-- what came, with what the destination began with
base_begun : (trace : GuestTrace) (tick streams : ℕ) (closed : ClosedView) (part : GuestPart) (rest : List GuestPart)
    → IsTrace trace
    → AllSentArrived trace (Some tick) streams closed (part ∷ rest)
    → AllArrived trace streams closed (join (first_part trace (Some tick)) part ∷ rest)
base_begun trace tick streams closed part rest is came =
    let first : GuestPart = first_part trace (Some tick) in
    let is_part = is_first_part trace (Some tick) is in
    let shape : first.shape ≡ shape_of_trace trace = first_shape trace (Some tick) in
    let honest : IsHonest trace first = λ page copy there. (first_had trace (Some tick) page copy is there).4 in
    let bound : (page : ℕ) → IfSome (copy_at first page) (IsBelow (get_or closed.versions page 0)) = λ page. if_some
    (copy_at first page) (λ copy there.
    let had = first_had trace (Some tick) page copy is there in
    let same : tick ≡ had.0 = same_Some tick had.0 had.1 in
    let low = came.base_low page had.2 in
    omega (arith, low, had.3, ap (version_before trace page) same)) in
    record {
      fits = came.fits;
      count = came.count;
      not_beyond = not_beyond_with trace closed.versions first part rest came.not_beyond is_part shape honest bound;
      current = λ page real unmarked. elim (came.current page real unmarked) [
        | inl has ↦ still_current trace closed.versions first part rest came.not_beyond is_part shape honest bound page
            has
        | inr as_base ↦ first_current trace closed.versions first part rest came.not_beyond is_part shape honest bound
            page _ (first_copy trace tick page is real) (sym as_base)
      ];
    }

pub all_begun : (trace : GuestTrace) (base : Option ℕ) (streams : ℕ) (closed : ClosedView) (parts : List GuestPart)
    → IsTrace trace → 1 ≤ streams
    → AllSentArrived trace base streams closed parts → AllArrived trace streams closed
    (parts_with (option_map (λ tick. first_part trace (Some tick)) base) parts)
all_begun trace None streams closed parts is some came = record {
  fits = came.fits;
  count = came.count;
  not_beyond = came.not_beyond;
  current = λ page real unmarked. elim (came.current page real unmarked) [
    | inl has ↦ has
    | inr as_base ↦ absurd as_base
  ];
}
all_begun trace (Some tick) streams closed [] is some came = absurd (omega (arith, some, came.count))
all_begun trace (Some tick) streams closed (part ∷ rest) is some came = base_begun trace tick streams closed part rest
    is came

-- the shapes that a join asks for
pub shapes_begun : (trace : GuestTrace) (base : Option ℕ) (parts : List GuestPart)
    → All (λ (p : GuestPart). p.shape ≡ shape_of_trace trace) parts
    → IfSome (option_map (λ tick. first_part trace (Some tick)) base)
    (λ one. All (λ (p : GuestPart). one.shape ≡ p.shape) parts)
shapes_begun trace None parts shapes = tt
shapes_begun trace (Some tick) parts shapes = λ i d low. sym (shapes i d low)
