-- The memory and the stamps of what a destination has before the first round.
use Rattle.std.proofs.Common.{◌≡◌, ℕ, ◌<◌, ◌≤◌, nat_lt, List, [], ◌∷◌, length, slice_index, refl, sym, ap, ◌∙◌, arith}
use Rattle.std.specs.List.{All, filter, fold}
use Rattle.std.proofs.lemmas.Grind.{get_or_default_zero}
use Rattle.std.proofs.lemmas.List.{ext_get_or}
use Rattle.std.proofs.lemmas.List.FromFn.{get_or-map-range_with_len, length-map-range_with_len}
use Rattle.migration_model.specs.Memory.{GuestMemory, apply, image_before, zeros}
use Rattle.migration_model.specs.Trace.{GuestTrace, GuestWrite}
use Rattle.migration_model.specs.Versions.{version_before}
use Rattle.migration_model.specs.Warm.{versions_of}
use Rattle.migration_model.proofs.Warm.{version_low}

-- writes change neither the size of pages nor their number
pub shift_applied : (memory : GuestMemory) (writes : List GuestWrite) → (fold apply memory writes).shift ≡ memory.shift
shift_applied memory [] = refl
shift_applied memory (write ∷ writes) = shift_applied (apply memory write) writes

pub pages_applied : (memory : GuestMemory) (writes : List GuestWrite) → (fold apply memory writes).pages ≡ memory.pages
pages_applied memory [] = refl
pages_applied memory (write ∷ writes) = pages_applied (apply memory write) writes

pub size_before : (trace : GuestTrace) (tick : ℕ) (memory : GuestMemory) → memory ≡ image_before trace tick
    → (memory.shift ≡ trace.shift) × (memory.pages ≡ trace.pages)
size_before trace tick memory is =
    let start = zeros trace.shift trace.pages in
    let writes : List GuestWrite = filter (λ w. nat_lt w.tick tick) trace.writes in (
      ap (λ (m : GuestMemory). m.shift) is ∙ shift_applied start writes,
      ap (λ (m : GuestMemory). m.pages) is
          ∙ pages_applied start writes,
    )

module _ (trace : GuestTrace) (tick : ℕ) (versions : List ℕ) (count : length versions ≡ trace.pages)
    (each : (page : ℕ) → page < trace.pages → slice_index versions page ≡ version_before trace page tick) where
  -- a list of the versions of all pages is that of the definition
  pub versions_are : versions ≡ versions_of trace tick
  versions_are =
      let len = length-map-range_with_len (λ p. version_before trace p tick) 0 trace.pages in
      ext_get_or 0 versions (versions_of trace tick) (count ∙ sym len)
      (λ page low.
      let inside : page < trace.pages = omega (arith, low, count) in
      each page inside ∙ sym (get_or-map-range_with_len (λ p. version_before trace p tick) 0 trace.pages page page 0
      inside (omega arith)))

  -- and none of them is above the number of writes
  pub versions_low : All (λ version. version ≤ length trace.writes) versions
  versions_low page other low =
      let inside : page < trace.pages = omega (arith, low, count) in
      omega (arith, get_or_default_zero versions page other low, each page inside, version_low trace page tick)
