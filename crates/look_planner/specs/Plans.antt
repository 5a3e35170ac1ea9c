-- A plan by the numbers of its lists.
use Rattle.std.specs.Prelude.{◌≡◌, ℕ, ◌-◌, ◌<◌, ◌≤◌, ◌^◌, List, codes, length, map}
use Rattle.migration_model.specs.Looks.{HypervisorPlan, HypervisorSettings, IsHypervisorPlan, SentList, pages_left}
use Rattle.migration_model.specs.Looks.{PlanEnd, few_left, looks_done, record_ends, sent_of}
use Rattle.migration_model.specs.Touches.{GuestTouch}
use Rattle.look_planner.specs.declared.parts.ListRow.{ListRow}
use Rattle.look_planner.specs.declared.parts.PlanEnd.{PlanEnd as EndCode}
use Rattle.look_planner.specs.declared.parts.PlanEnd.TheVariants.{Few, Looks, Record}

abbrev pub end_of : EndCode → PlanEnd
end_of Record = record_ends
end_of Few = few_left
end_of Looks = looks_done

-- the word for the reason why a plan ends
abbrev pub word_of : EndCode → List ℕ
word_of Record = codes "record"
word_of Few = codes "few"
word_of Looks = codes "looks"

-- the numbers of a list
abbrev pub row_of : ℕ → List GuestTouch → SentList → ListRow
row_of pages touches list = record {
  from = list.from;
  to = list.to;
  pages = length list.pages;
  sent = list.sent;
  left = length (pages_left pages touches list);
}

-- a plan, with the numbers of its lists in their place, and how many pages they send
pub record PlanNumbers : Type 0 where
  pub rows : List ListRow
  pub end : PlanEnd
  pub stop : ℕ
  pub last : List ℕ
  pub down : ℕ
  pub sent : ℕ

abbrev pub numbers_of : ℕ → List GuestTouch → HypervisorPlan → PlanNumbers
numbers_of pages touches plan = record {
  rows = map (row_of pages touches) plan.lists;
  end = plan.end;
  stop = plan.stop;
  last = plan.last;
  down = plan.down;
  sent = sent_of plan.lists;
}

-- these are the numbers of the plan of a guest of `pages` pages with these touches
pub record AreNumbers (pages : ℕ) (touches : List GuestTouch) (s : HypervisorSettings) (numbers : PlanNumbers) : Type
    0 where
  pub plan : HypervisorPlan
  pub is_plan : IsHypervisorPlan pages touches s plan
  pub numbers_are : numbers ≡ numbers_of pages touches plan

-- how many of the lists end with a look, if they end for this reason
abbrev pub looks_of : PlanEnd → ℕ → ℕ
looks_of record_ends lists = lists - 1
looks_of few_left lists = lists
looks_of looks_done lists = lists

abbrev pub looks_in : PlanNumbers → ℕ
looks_in numbers = looks_of numbers.end (length numbers.rows)

-- no more is sent or left than a guest and a record may have
pub record IsSmall (rows : List ListRow) (sent : ℕ) (last : List ℕ) : Type 0 where
  pub some : 1 ≤ length rows
  pub few : sent < 2 ^ 60
  pub rest : length last ≤ 65_536
