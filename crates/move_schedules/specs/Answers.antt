-- What is told of plans: a line on the schedule of each, which is the best, and a line on each move of that.
use Rattle.std.specs.Prelude.{◌≡◌, ℕ, Bool, ◌∷◌, [], ◌++◌, if◌then◌else◌, List, length, map, codes, Some}
use Rattle.std.specs.Fmt.{decimal}
use Rattle.std.specs.List.{AllZip, IsFirstBest, flat_map, slice_get}
use Rattle.move_schedules.specs.Choices.{is_better_schedule}
use Rattle.move_schedules.specs.Costs.{cost_of}
use Rattle.move_schedules.specs.Schedules.{IsSchedule}
use Rattle.move_schedules.specs.declared.costs.ScheduleCost.{ScheduleCost}
use Rattle.move_schedules.specs.declared.moves.Placement.{Placement}
use Rattle.move_schedules.specs.Tables.{HostPlan}

-- the schedule of a plan, and what it costs
pub record PlanAnswer : Type 0 where
  pub placed : List Placement
  pub cost : ScheduleCost

pub record IsAnswer (plan : HostPlan) (answer : PlanAnswer) : Type 0 where
  pub schedule : IsSchedule plan.slots plan.moves answer.placed
  pub cost : answer.cost ≡ cost_of plan.deadline plan.moves answer.placed

abbrev pub cost_in : PlanAnswer → ScheduleCost
cost_in answer = answer.cost

-- words and a number
unfoldable pub wide_field : List ℕ → ℕ → List ℕ
wide_field words number = words ++ decimal number

abbrev pub mark_of : Bool → List ℕ
mark_of kept = if kept then codes " kept\n" else codes " missed\n"

-- what a schedule costs, and when a move runs, each as a line
unfoldable pub cost_line : ScheduleCost → List ℕ
cost_line cost = wide_field (codes "time ") cost.time ++ (wide_field (codes " bytes ") cost.bytes
    ++ (wide_field (codes " downtime ") cost.downtime ++ mark_of cost.is_kept))

unfoldable pub placement_line : Placement → List ℕ
placement_line p = wide_field (codes "start ") p.start ++ (wide_field (codes " end ") p.end
    ++ (wide_field (codes " slot ") p.slot ++ 10 ∷ []))

abbrev pub best_line : ℕ → List ℕ
best_line best = wide_field (codes "best ") best ++ 10 ∷ []

abbrev pub answer_text : List ScheduleCost → ℕ → List Placement → List ℕ
answer_text costs best placed =
    flat_map cost_line costs ++ (best_line best ++ flat_map placement_line placed)

-- the text is what is told of these plans
pub record IsAnswerText (plans : List HostPlan) (text : List ℕ) : Type 0 where
  pub answers : List PlanAnswer
  pub each : AllZip IsAnswer plans answers
  pub best : ℕ
  pub is_best : IsFirstBest is_better_schedule (map cost_in answers) (length (map cost_in answers)) best
  pub chosen : PlanAnswer
  pub chosen_is : slice_get answers best ≡ Some chosen
  pub text_is : text ≡ answer_text (map cost_in answers) best chosen.placed
