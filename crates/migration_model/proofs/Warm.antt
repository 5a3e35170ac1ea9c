-- What a destination has if it begins with the memory before a base.
use Rattle.std.proofs.Common.{◌≡◌, ℕ, ◌<◌, ◌≤◌, ◌-◌, inl, inr, List, length, get_or, Option, Some, None, IfSome, refl}
use Rattle.std.proofs.Common.{sym, ap, ◌∙◌, arith}
use Rattle.std.proofs.lemmas.Bool.{cases_lt}
use Rattle.std.proofs.lemmas.List.{get_or_past, get_or-replicate, length-replicate}
use Rattle.std.proofs.lemmas.List.FromFn.{get_or-map-range_with_len, length-map-range_with_len}
use Rattle.std.proofs.lemmas.Option.{none-some, same_Some, slice_get_within}
use Rattle.migration_model.specs.Trace.{GuestTrace, IsTrace}
use Rattle.migration_model.specs.Memory.{GuestMemory, image_before}
use Rattle.migration_model.specs.Versions.{version_before, page_at}
use Rattle.migration_model.specs.Frames.{GuestShape, IsGuestShape}
use Rattle.migration_model.specs.Parts.{PageCopy, GuestPart, IsCopy, IsPart, copy_at, empty_part}
use Rattle.migration_model.specs.Final.{shape_of_trace}
use Rattle.migration_model.specs.Warm.{copy_from, part_of_memory, versions_of, first_part}
use Rattle.migration_model.proofs.Pages.{length-page_at, page_before}
use Rattle.migration_model.proofs.Placed.{version_is_place}
use Rattle.migration_model.proofs.Lists.{if_some}

-- a version is no greater than the number of writes
pub version_low : (trace : GuestTrace) (page tick : ℕ) → version_before trace page tick ≤ length trace.writes
version_low trace page tick = elim (version_is_place trace page tick) [
  | inl none ↦ omega (arith, none)
  | inr is ↦ (let low = slice_get_within trace.writes (version_before trace page tick - 1) is.write is.there in omega
      (arith, low, is.some))
]

pub shape_is : (trace : GuestTrace) → IsTrace trace → IsGuestShape (shape_of_trace trace)
shape_is trace is = record { size = is.size; few = is.count }

-- a page of memory in the part that has it
pub copy_in_memory : (shape : GuestShape) (memory : GuestMemory) (stamps : List ℕ) (page : ℕ) → page < shape.pages
    → copy_at (part_of_memory shape memory stamps) page ≡ Some (copy_from memory stamps page)
copy_in_memory shape memory stamps page low =
    get_or-map-range_with_len (λ p. Some (copy_from memory stamps p)) 0 shape.pages page page None low (omega arith)

-- and no page after the last
pub none_past : (part : GuestPart) (page : ℕ) → length part.copies ≤ page → copy_at part page ≡ None
none_past part page past = get_or_past part.copies page None past

length_of_memory : (shape : GuestShape) (memory : GuestMemory) (stamps : List ℕ)
    → length (part_of_memory shape memory stamps).copies ≡ shape.pages
length_of_memory shape memory stamps = length-map-range_with_len (λ p. Some (copy_from memory stamps p)) 0 shape.pages

-- the copy that a page has at its version before a tick
abbrev copy_before : GuestTrace → ℕ → ℕ → PageCopy
copy_before trace tick page = record {
  stamp = version_before trace page tick;
  content =
      page_at trace page (version_before trace page tick);
}

pub first_copy : (trace : GuestTrace) (tick page : ℕ) → IsTrace trace → page < trace.pages
    → copy_at (first_part trace (Some tick)) page ≡ Some (copy_before trace tick page)
first_copy trace tick page is low =
    let stamp : get_or (versions_of trace tick) page 0 ≡ version_before trace page tick =
    get_or-map-range_with_len (λ p. version_before trace p tick) 0 trace.pages page page 0 low (omega arith) in
    copy_in_memory (shape_of_trace trace) (image_before trace tick) (versions_of trace tick) page low
    ∙ (λ i. Some (record { stamp = stamp i; content = sym (page_before trace page tick low is) i }))

nothing_first : (trace : GuestTrace) (page : ℕ) → copy_at (first_part trace None) page ≡ None
nothing_first trace page = elim (cases_lt page trace.pages) [
  | inl low ↦ get_or-replicate trace.pages page None None low
  | inr past ↦ none_past (empty_part (shape_of_trace trace)) page
      (let len = length-replicate {A = Option PageCopy} trace.pages None in omega (arith, past, len))
]

-- a page that it has comes from a base, at its version at that time
pub first_had : (trace : GuestTrace) (base : Option ℕ) (page : ℕ) (copy : PageCopy) → IsTrace trace
    → copy_at (first_part trace base) page ≡ Some copy
    → (tick : ℕ) × (base ≡ Some tick) × (page < trace.pages) × (copy.stamp ≡ version_before trace page tick)
    × (copy.content ≡ page_at trace page copy.stamp)
first_had trace None page copy is there = absurd (none-some copy (sym (nothing_first trace page) ∙ there))
first_had trace (Some tick) page copy is there = elim (cases_lt page trace.pages) [
  | inl low ↦
      let same : copy_before trace tick page ≡ copy = same_Some (copy_before trace tick page) copy
      (sym (first_copy trace tick page is low) ∙ there) in
      let stamp : copy.stamp ≡ version_before trace page tick = ap (λ (c : PageCopy). c.stamp) (sym same) in
      (tick, refl, low, stamp, ap (λ (c : PageCopy). c.content) (sym same) ∙ ap (page_at trace page) (sym stamp))
  | inr past ↦
      let len = length_of_memory (shape_of_trace trace) (image_before trace tick) (versions_of trace tick) in
      absurd (none-some copy (sym (none_past (first_part trace (Some tick)) page (omega (arith, past, len))) ∙ there))
]

-- it is a part
first_copies : (trace : GuestTrace) (base : Option ℕ) (page : ℕ) → IsTrace trace
    → IfSome (copy_at (first_part trace base) page) (IsCopy (shape_of_trace trace))
first_copies trace base page is = if_some (copy_at (first_part trace base) page) (λ copy there.
    let had = first_had trace base page copy is there in
    record {
      stamp = omega (arith, had.3, version_low trace page had.0);
      content = ap length had.4 ∙ length-page_at trace page copy.stamp is had.2;
    })

first_length : (trace : GuestTrace) (base : Option ℕ) → length (first_part trace base).copies ≡ trace.pages
first_length trace None = length-replicate trace.pages None
first_length trace (Some tick) = length_of_memory (shape_of_trace trace) (image_before trace tick)
    (versions_of trace tick)

pub first_shape : (trace : GuestTrace) (base : Option ℕ) → (first_part trace base).shape ≡ shape_of_trace trace
first_shape trace None = refl
first_shape trace (Some tick) = refl

pub is_first_part : (trace : GuestTrace) (base : Option ℕ) → IsTrace trace → IsPart (first_part trace base)
is_first_part trace None is = record {
  shape = shape_is trace is;
  places = first_length trace None;
  copies =
      λ page. first_copies trace None page is;
}
is_first_part trace (Some tick) is = record {
  shape = shape_is trace is;
  places = first_length trace (Some tick);
  copies = λ page. first_copies trace (Some tick) page is;
}
