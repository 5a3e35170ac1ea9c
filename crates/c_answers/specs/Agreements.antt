-- What C sees of how sure a prediction is. Why there is nothing to tell is as for a prediction.
use Rattle.c_layout.specs.Agreements.{IsAgreementOver}
use Rattle.migration_model.specs.Touches.{touches_in}
use Rattle.migration_model.specs.Trace.{GuestTrace}
use Rattle.predictions.specs.Questions.{Fits, manner_in, scale_in, terms_of}
use Rattle.predictions.specs.declared.agreement.numbers.AgreementNumbers.{AgreementNumbers}
use Rattle.predictions.specs.declared.question.Question.{Question}

-- these numbers say how sure the answer to a question is over a trace that has the question's scale
pub record IsAgreementOf (trace : GuestTrace) (q : Question) (numbers : AgreementNumbers) : Type 0 where
  pub fits : Fits (scale_in q) trace.shift trace.pages
  pub agrees : IsAgreementOver (manner_in q) (terms_of q) (touches_in trace) numbers
