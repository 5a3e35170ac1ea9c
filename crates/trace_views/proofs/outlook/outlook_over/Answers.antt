use Rattle.std.proofs.Common.{◌≡◌, ap, subst}
use Rattle.predictions.specs.Agreements.{IsAgreement}
use Rattle.predictions.specs.Predictions.Traces.{IsPrediction}
use Rattle.predictions.specs.Remedies.{AreRemedies}
use Rattle.predictions.specs.Remedies.Trials.{MigrationTrial}
use Rattle.predictions.specs.Shares.{IsLinkShare, VerdictAt}
use Rattle.predictions.specs.declared.measure.Measure.{Measure}
use Rattle.trace_views.specs.Outlooks.{AreRangesOver}
use Rattle.trace_views.proofs.outlook.outlook_over.Goals as goal

pub returns-clause-made : goal.returns-clause-made
returns-clause-made g c =
    let asked = c.args.asked.now in
    let log = c.args.log.now in
    let measure = c.measure_of-measure.ensures in
    let trial = c.trial_of-trial.ensures in
    record {
      is_prediction = subst (λ (m : Measure). IsPrediction m.manner log.pages log.touches m.scale m.limits
          asked.settings c.in_ok-prediction.prediction) measure c.in_ok-prediction.ensures;
      are_errors = c.in_ok-errors.ensures;
      is_forecast = c.in_ok-looks.ensures.made;
      are_ranges = subst (λ (m : Measure). AreRangesOver log asked.settings m c.in_ok-ranges.ranges) measure
          c.in_ok-ranges.ensures.made;
      is_agreement = subst (λ (m : Measure). IsAgreement m.manner log.pages log.touches asked.settings m.scale m.limits
          c.in_ok-agreement.agreement) measure c.in_ok-agreement.ensures;
      is_share = subst (λ (t : MigrationTrial). IsLinkShare (VerdictAt log.pages log.touches t) c.in_ok-share.share)
          trial c.in_ok-share.ensures;
      are_remedies = subst (λ (t : MigrationTrial). AreRemedies log.pages log.touches t c.in_ok-remedies.remedies)
          trial c.in_ok-remedies.ensures;
    }
