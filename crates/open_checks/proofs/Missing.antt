-- The first write that a page with a word lacks.
use Rattle.std.proofs.Common.{◌≡◌, ℕ, zero, suc, ◌-◌, ◌<◌, ◌≤◌, leb, ltb, List, length, get_or, inl, inr, refl}
use Rattle.std.proofs.Common.{◌+◌, Option, unwrap_or, sym, ap, subst, ◌∙◌, arith}
use Rattle.std.specs.List.{filter}
use Rattle.std.specs.List.Sorted.{IsNonDecreasing}
use Rattle.std.proofs.lemmas.Bool.{cases_eq}
use Rattle.migration_model.specs.Touches.{touches_of}
use Rattle.migration_model.specs.Trace.{GuestTrace}
use Rattle.page_versions.specs.Index.{index_with, places_of, version_after}
use Rattle.page_versions.proofs.Places.{same_places}
use Rattle.open_traces.specs.Index.{next_after}
use Rattle.open_traces.proofs.PageWalks.{IsNext-from, version_within}
use Rattle.stream_check.specs.Ends.{places_missing}
use Rattle.stream_check.proofs.Missing.{after_rise, first_over}
use Rattle.open_checks.specs.Kept.{stamp_in}
use Rattle.open_checks.proofs.Words.{stamp_own}

-- the version in a word, or 0
pub version_in : (word : ℕ) → unwrap_or (stamp_in word) 0 ≡ word - 1
version_in zero = refl
version_in (suc came) =
    let own : suc came ≡ came + 1 = omega arith in
    let left : came ≡ suc came - 1 = omega arith in
    ap (λ (o : Option ℕ). unwrap_or o 0) (ap stamp_in own ∙ stamp_own came) ∙ left

-- if the next write comes after the stop, the page lacks none
pub none_missing : (trace : GuestTrace) (stop page word version next : ℕ) → version ≡ word - 1
    → next ≡ next_after trace page version → stop < next
    → 0 ≡ get_or (places_missing trace stop page (stamp_in word)) 0 0
none_missing trace stop page word version next own is late =
    let places : List ℕ = filter (λ (v : ℕ). ltb version v) (places_of trace page) in
    let rise : IsNonDecreasing places =
    subst (λ (l : List ℕ). IsNonDecreasing (filter (λ (v : ℕ). ltb version v) l)) (same_places trace page)
    (after_rise (index_with trace.pages (touches_of trace)) page version) in
    first_over stop places rise (omega (arith, late, is))
    ∙ ap (λ (n : ℕ). get_or (filter (λ (v : ℕ). leb v stop) (filter (λ (v : ℕ). ltb n v) (places_of trace page))) 0 0)
    (own ∙ sym (version_in word))

-- the next write is one of the trace
pub next_within : (trace : GuestTrace) (page version next : ℕ) → version ≡ version_after trace page version
    → next ≡ next_after trace page version → next ≤ length trace.writes
next_within trace page version next own is = elim (cases_eq next 0) [
  | inl none ↦ omega (arith, none)
  | inr some ↦
      (IsNext-from trace page version next is some (version_within trace page version own)).within
]
