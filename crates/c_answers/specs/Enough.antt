-- What C sees of what is enough for a limit. Why there is nothing to tell is as for a prediction.
use Rattle.std.specs.Prelude.{◌≡◌}
use Rattle.predictions.specs.Remedies.Questions.{remedy_numbers, trial_in}
use Rattle.predictions.specs.Remedies.{AreRemedies}
use Rattle.predictions.specs.Remedies.Trials.{MigrationTrial}
use Rattle.predictions.specs.declared.remedies.finding.Remedies.{Remedies}
use Rattle.predictions.specs.declared.remedies.numbers.RemedyNumbers.{RemedyNumbers}
use Rattle.migration_model.specs.Touches.{GuestTouches, touches_in}
use Rattle.migration_model.specs.Trace.{GuestTrace}
use Rattle.predictions.specs.Questions.{Fits, scale_in}
use Rattle.predictions.specs.declared.question.Question.{Question}

-- these numbers say whether a migration keeps its limit over a log of touches, and what keeps it
pub record AreAmountsOver (trial : MigrationTrial) (log : GuestTouches) (numbers : RemedyNumbers) : Type 0 where
  pub found : Remedies
  pub are_remedies : AreRemedies log.pages log.touches trial found
  pub numbers_are : numbers ≡ remedy_numbers found

-- they say so of a question over a trace that has the question's scale
pub record AreAmountsOf (trace : GuestTrace) (q : Question) (numbers : RemedyNumbers) : Type 0 where
  pub fits : Fits (scale_in q) trace.shift trace.pages
  pub are_amounts : AreAmountsOver (trial_in q) (touches_in trace) numbers
