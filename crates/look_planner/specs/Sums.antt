-- The sums of a hypervisor's plan.
use Rattle.std.specs.Prelude.{◌≡◌, ℕ, ◌+◌, ◌-◌, nat_lt, Bool, List, length}
use Rattle.std.specs.List.{list_all, slice_range}
use Rattle.migration_model.specs.Looks.{HypervisorSettings}
use Rattle.migration_model.specs.Touches.{GuestTouch}
use Rattle.migration_model.specs.Trace.{last_by}
use Rattle.look_planner.specs.Plans.{AreNumbers, PlanNumbers, end_of, looks_in}
use Rattle.look_planner.specs.declared.parts.ListRow.{ListRow}
use Rattle.look_planner.specs.declared.sums.LookSums.{LookSums}

-- whether a list has more than so many pages
abbrev pub has_more : ℕ → ListRow → Bool
has_more pages row = nat_lt pages row.pages

-- whether each list between the first and the last has more pages than the last
abbrev pub shortens : List ListRow → Bool
shortens rows = list_all (has_more (last_by (λ row. row.pages) rows)) (slice_range rows 1 (length rows - 1))

-- a plan of these numbers has these sums
pub record HasSums (numbers : PlanNumbers) (sums : LookSums) : Type 0 where
  pub end_is : end_of sums.end ≡ numbers.end
  pub looks_is : sums.looks ≡ looks_in numbers
  pub stop_is : sums.stop ≡ numbers.stop
  pub total_is : sums.total ≡ numbers.sent + length numbers.last
  pub left_is : sums.left ≡ length numbers.last
  pub down_is : sums.down ≡ numbers.down
  pub shortens_is : sums.shortens ≡ shortens numbers.rows

-- these are the sums of the plan of a guest of `pages` pages with these touches
pub record AreSums (pages : ℕ) (touches : List GuestTouch) (s : HypervisorSettings) (sums : LookSums) : Type 0 where
  pub numbers : PlanNumbers
  pub are_numbers : AreNumbers pages touches s numbers
  pub has_sums : HasSums numbers sums
