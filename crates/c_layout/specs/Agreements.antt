-- How sure a prediction is, in the numbers that C and a web page have.
use Rattle.std.specs.Prelude.{◌≡◌, Option}
use Rattle.migration_model.specs.Touches.{GuestTouches}
use Rattle.predictions.specs.Agreements.Numbers.{sure_numbers}
use Rattle.predictions.specs.Agreements.{IsAgreement}
use Rattle.predictions.specs.Predictions.{GuestPrediction}
use Rattle.predictions.specs.Predictions.Traces.{IsPrediction}
use Rattle.predictions.specs.Redrawn.Errors.{AreErrors, SampleErrors}
use Rattle.predictions.specs.declared.course.Manner.{Manner}
use Rattle.predictions.specs.declared.agreement.numbers.AgreementNumbers.{AgreementNumbers}
use Rattle.predictions.specs.declared.agreement.verdicts.Agreement.{Agreement}
use Rattle.predictions.specs.declared.question.Terms.{Terms}

-- these numbers say how sure the answer to a question is over a log of touches, by a manner: by what its plan predicts,
-- the standard errors of that, and the plans of draws and from starts
pub record IsAgreementOver (manner : Manner) (terms : Terms) (log : GuestTouches) (numbers : AgreementNumbers)
    : Type 0 where
  pub prediction : GuestPrediction
  pub is_prediction : IsPrediction manner log.pages log.touches terms.scale terms.limits terms.settings prediction
  pub errors : Option SampleErrors
  pub are_errors : AreErrors manner log.pages log.touches terms.settings terms.scale errors
  pub agreement : Agreement
  pub is_agreement : IsAgreement manner log.pages log.touches terms.settings terms.scale terms.limits agreement
  pub numbers_are : numbers ≡ sure_numbers terms.limits.downtime agreement prediction errors
