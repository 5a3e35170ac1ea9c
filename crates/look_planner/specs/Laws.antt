-- What laws say of a hypervisor's plan.
use Rattle.std.specs.Prelude.{◌≡◌, ℕ, ◌+◌, ◌-◌, ◌*◌, ◌≤◌, false, List, [], ◌∷◌, ◌++◌, IsTrue, IfSome, Some, length, map}
use Rattle.std.specs.Prelude.{slice_index_or, take}
use Rattle.std.specs.List.{Contains}
use Rattle.migration_model.specs.Looks.{HypervisorPlan, HypervisorSettings, PlanEnd, SentList, few_left, is_among}
use Rattle.migration_model.specs.Looks.{looks_done, record_ends}
use Rattle.migration_model.specs.Rates.{MigrationSettings, StopReason, few_remain, rounds_done, too_fast}
use Rattle.migration_model.specs.Rounds.{MigrationPlan, PlannedRound}
use Rattle.migration_model.specs.Touches.{GuestTouch, is_written}
use Rattle.look_planner.specs.declared.sums.LookSums.{LookSums}

-- a page is sent with one of these lists, and from its first tick on and before a tick it is not written
pub record IsSentWith (touches : List GuestTouch) (lists : List SentList) (stop page : ℕ) : Type 0 where
  pub list : SentList
  pub there : Contains lists list
  pub sent : IsTrue (is_among page (take list.sent list.pages))
  pub unwritten : is_written touches list.from stop page ≡ false

-- the pages that come after list `k`: those of the next list, or those that are left at the end
abbrev pub pages_after : HypervisorPlan → ℕ → List ℕ
pages_after plan k = slice_index_or (map (λ list. list.pages) plan.lists ++ plan.last ∷ []) (k + 1) []

abbrev pub no_list : SentList
no_list = record { from = 0; to = 0; pages = []; sent = 0 }

-- the stop is in the record; no more is left than the guest has, nor sent than 1,000 pages a tick and what is left, nor
-- than a guest's pages in each list and at the stop; and a page takes 1,000 ticks at most
pub record AreLow (pages : ℕ) (s : HypervisorSettings) (sums : LookSums) : Type 0 where
  pub stop_low : s.start ≤ sums.stop
  pub stop_high : sums.stop ≤ s.end
  pub left : sums.left ≤ pages
  pub total_low : sums.left ≤ sums.total
  pub total : sums.total ≤ 1_000 * (sums.stop - s.start) + sums.left
  pub down : sums.down ≤ 1_000 * sums.left
  pub lists : sums.total ≤ (sums.looks + 2) * 65_536
  pub looks : IfSome s.looks (λ most. sums.looks ≤ most)

-- ---- Clark's plan as that of a hypervisor that asks only when all of a list is sent

abbrev pub settings_like : MigrationSettings → ℕ → HypervisorSettings
settings_like s end =
    record {
      start = s.start;
      base = s.base;
      rate = s.max;
      window = 0;
      threshold = s.threshold;
      looks = Some s.rounds;
      end = end;
    }

abbrev pub list_like : PlannedRound → SentList
list_like round =
    record { from = round.from; to = round.to; pages = round.pages; sent = length round.sent }

-- no plan of a hypervisor ends because much was written
abbrev pub end_like : StopReason → PlanEnd
end_like few_remain = few_left
end_like rounds_done = looks_done
end_like too_fast = record_ends

abbrev pub plan_like : MigrationPlan → HypervisorPlan
plan_like plan =
    record {
      lists = map list_like plan.rounds;
      end = end_like plan.reason;
      stop = plan.stop;
      last = plan.last;
      down = plan.down;
    }
