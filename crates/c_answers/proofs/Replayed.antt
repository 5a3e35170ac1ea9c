-- The writes of a trace that are before a tick.
use Rattle.std.proofs.Common.{◌≡◌, ℕ, suc, ltb, List, [], ◌∷◌, length, take, sym, ap}
use Rattle.std.proofs.Common.{inl, inr, ◌∙◌, arith}
use Rattle.std.specs.List.{filter}
use Rattle.std.specs.List.Sorted.{IsNonDecreasingBy}
use Rattle.std.proofs.lemmas.Bool.{cond-true, cases_lt, lt-ltb, le-ltb}
use Rattle.std.proofs.Math.Seq.{take-nil}
use Rattle.page_versions.proofs.Places.{filter_none}
use Rattle.migration_model.specs.Memory.{image_after, image_before, replay}
use Rattle.migration_model.specs.Trace.{GuestTrace, GuestWrite, IsTrace}

-- the writes before a tick among these
abbrev pub before_tick : ℕ → List GuestWrite → List GuestWrite
before_tick tick writes = filter (λ write. ltb write.tick tick) writes

-- writes in order begin with those before a tick
front_before : (tick : ℕ) (writes : List GuestWrite) → IsNonDecreasingBy (λ write. write.tick) writes
    → take (length (before_tick tick writes)) writes ≡ before_tick tick writes
front_before tick [] order = take-nil (length (before_tick tick []))
front_before tick (write ∷ writes) order = elim (cases_lt write.tick tick) [
  | inl low ↦
      let is : before_tick tick (write ∷ writes) ≡ write ∷ before_tick tick writes =
      cond-true (ltb write.tick tick) (write ∷ before_tick tick writes) (before_tick tick writes)
      (lt-ltb write.tick tick low) in
      ap (λ (n : ℕ). take n (write ∷ writes)) (ap length is)
      ∙ ap (λ (l : List GuestWrite). write ∷ l) (front_before tick writes
      (λ i j d le inside. order (suc i) (suc j) d (omega (arith, le)) (omega (arith, inside))))
      ∙ sym is
  | inr high ↦
      let none : before_tick tick (write ∷ writes) ≡ [] =
      filter_none (λ w. ltb w.tick tick) (write ∷ writes) (λ k d inside. le-ltb _ tick
      (omega (arith, high, order 0 k d (omega arith) inside))) in
      ap (λ (l : List GuestWrite). take (length l) (write ∷ writes)) none ∙ sym none
]

-- so memory after them is that before the tick
pub image_after_count : (trace : GuestTrace) (tick count : ℕ) → IsTrace trace
    → count ≡ length (before_tick tick trace.writes) → image_after trace count ≡ image_before trace tick
image_after_count trace tick count is same =
    ap (image_after trace) same
    ∙ ap (replay trace.shift trace.pages) (front_before tick trace.writes is.writes.in_order)
