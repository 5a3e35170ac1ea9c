-- What many plans say together.
use Rattle.std.proofs.Common.{◌≡◌, Option, subst}
use Rattle.c_layout.specs.Agreements.{IsAgreementOver}
use Rattle.migration_model.specs.Touches.{touches_in, touches_of}
use Rattle.migration_model.specs.Trace.{GuestTrace}
use Rattle.predictions.specs.Agreements.Numbers.{sure_numbers}
use Rattle.predictions.specs.Agreements.{AreDrawCounts, AreStartCounts}
use Rattle.predictions.specs.Predictions.{GuestPrediction}
use Rattle.predictions.specs.Predictions.Traces.{IsPrediction}
use Rattle.predictions.specs.Redrawn.Errors.{AreErrors, SampleErrors}
use Rattle.predictions.specs.declared.agreement.counts.AnswerCounts.{AnswerCounts}
use Rattle.predictions.specs.declared.agreement.numbers.AgreementNumbers.{AgreementNumbers}
use Rattle.predictions.specs.declared.question.Terms.{Terms}
use Rattle.browser_planner.specs.Touches.{LentTimeline, timeline_with}

-- what is told by the plans over a log of touches, which is that of a trace
pub agrees : (trace : GuestTrace) (terms : Terms) (log : LentTimeline) (prediction : GuestPrediction)
    (errors : Option SampleErrors) (draws : Option AnswerCounts) (starts : AnswerCounts)
    (numbers : AgreementNumbers) → log ≡ timeline_with trace.pages (touches_of trace)
    → IsPrediction terms.manner log.pages log.touches terms.scale terms.limits terms.settings prediction
    → AreErrors terms.manner log.pages log.touches terms.settings terms.scale errors
    → AreDrawCounts terms.manner log.pages log.touches terms.settings terms.scale terms.limits draws
    → AreStartCounts terms.manner log.pages log.touches terms.settings terms.scale terms.limits starts
    → numbers ≡ sure_numbers terms.limits.downtime (record { draws = draws; starts = starts }) prediction errors
    → IsAgreementOver terms.manner terms (touches_in trace) numbers
agrees trace terms log prediction errors draws starts numbers of predicted are_errors are_draws are_starts is =
    record {
      prediction = prediction;
      is_prediction = subst (λ (l : LentTimeline). IsPrediction terms.manner l.pages l.touches terms.scale
          terms.limits terms.settings prediction) of predicted;
      errors = errors;
      are_errors = subst (λ (l : LentTimeline). AreErrors terms.manner l.pages l.touches terms.settings terms.scale
          errors) of are_errors;
      agreement = record { draws = draws; starts = starts };
      is_agreement = record {
        draws = subst (λ (l : LentTimeline). AreDrawCounts terms.manner l.pages l.touches terms.settings terms.scale
            terms.limits draws) of are_draws;
        starts = subst (λ (l : LentTimeline). AreStartCounts terms.manner l.pages l.touches terms.settings
            terms.scale terms.limits starts) of are_starts;
      };
      numbers_are = is;
    }
