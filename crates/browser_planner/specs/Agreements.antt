-- What a caller sees of how sure a prediction is, and what it lends for the plans that tell it.
use Rattle.std.specs.Prelude.{◌≤◌, length}
use Rattle.c_layout.specs.Agreements.{IsAgreementOver}
use Rattle.migration_model.specs.Touches.{touches_in}
use Rattle.migration_model.specs.Trace.{GuestTrace}
use Rattle.predictions.specs.declared.agreement.numbers.AgreementNumbers.{AgreementNumbers}
use Rattle.predictions.specs.declared.question.Terms.{Terms}
use Rattle.browser_planner.specs.declared.plans.PlanRoom.{PlanRoom}

-- these numbers say how sure the answer to a question is over a trace
abbrev pub IsAgreementFor : Terms → AgreementNumbers → GuestTrace → Type 0
IsAgreementFor terms numbers trace = IsAgreementOver terms.manner terms (touches_in trace) numbers

-- this is enough for the plans of draws from a sample of 65,536 pages, and so of any, and for plans of 64 rounds
pub record HasRoomToAgree (room : PlanRoom) (trace : GuestTrace) : Type 0 where
  pub touches : length trace.writes ≤ room.touches
  pub marks : 3_072 ≤ room.marks
  pub list : 131_072 ≤ room.list
  pub rounds : 64 ≤ room.rounds
