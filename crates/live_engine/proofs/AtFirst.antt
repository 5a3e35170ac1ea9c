-- Before the first tick nothing is written.
use Rattle.std.proofs.Common.{◌≡◌, ℕ, ◌&&◌, ◌==◌, true, false, nat_lt, map, max, get_or, refl, ap, arith}
use Rattle.std.specs.List.{enumerate_from, fold}
use Rattle.std.proofs.lemmas.Bool.{le-ltb}
use Rattle.migration_model.specs.Trace.{GuestTrace, GuestWrite}
use Rattle.migration_model.specs.Versions.{version_before}
use Rattle.page_versions.proofs.Places.{filter_none}

never : (tick page other : ℕ) → ((other == page) && nat_lt tick 0) ≡ false
never tick page other = elim (other == page) as (λ b. (b && nat_lt tick 0) ≡ false) [
  | true ↦ le-ltb tick 0 (omega arith)
  | false ↦ refl
]

pub version_at_first : (trace : GuestTrace) (page : ℕ) → version_before trace page 0 ≡ 0
version_at_first trace page =
    ap (λ l. fold max 0 (map (λ (at : ℕ × GuestWrite). at.0) l))
    (filter_none (λ (at : ℕ × GuestWrite). (at.1.page == page) && nat_lt at.1.tick 0) (enumerate_from 1 trace.writes)
    (λ k d low. never (get_or (enumerate_from 1 trace.writes) k d).1.tick page
    (get_or (enumerate_from 1 trace.writes) k d).1.page))
