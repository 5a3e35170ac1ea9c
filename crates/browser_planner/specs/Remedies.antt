-- What a caller sees of what keeps a limit, and what it lends for the search.
use Rattle.std.specs.Prelude.{◌≡◌, ◌≤◌, length}
use Rattle.predictions.specs.Remedies.Questions.{remedy_numbers, trial_in}
use Rattle.predictions.specs.Remedies.{AreRemedies}
use Rattle.predictions.specs.declared.remedies.finding.Remedies.{Remedies}
use Rattle.predictions.specs.declared.remedies.numbers.RemedyNumbers.{RemedyNumbers}
use Rattle.migration_model.specs.Touches.{touches_of}
use Rattle.migration_model.specs.Trace.{GuestTrace}
use Rattle.page_bitmap.specs.Listing.{word_count}
use Rattle.predictions.specs.declared.question.Question.{Question}
use Rattle.browser_planner.specs.declared.plans.PlanRoom.{PlanRoom}

-- these numbers say whether a question's limit is kept over a trace, and what keeps it
pub record AreNumbersFor (q : Question) (numbers : RemedyNumbers) (trace : GuestTrace) : Type 0 where
  pub found : Remedies
  pub are_remedies : AreRemedies trace.pages (touches_of trace) (trial_in q) found
  pub numbers_are : numbers ≡ remedy_numbers found

-- this is enough for the plans of a search over a trace, each of which has at most 64 rounds
pub record HasRoomToSearch (room : PlanRoom) (trace : GuestTrace) : Type 0 where
  pub touches : length trace.writes ≤ room.touches
  pub marks : word_count trace.pages ≤ room.marks
  pub list : trace.pages ≤ room.list
  pub rounds : 64 ≤ room.rounds
