-- What a migration will be, as a text.
use Rattle.std.specs.Prelude.{◌≡◌, ℕ, if◌then◌else◌, List, [], ◌++◌}
use Rattle.predictions.specs.Units.Scales.{TraceScale}
use Rattle.predictions.specs.declared.units.limits.Limits.{Limits}
use Rattle.migration_model.specs.Rates.{MigrationSettings}
use Rattle.migration_model.specs.Touches.{GuestTouches}
use Rattle.predictions.specs.Shares.Texts.{share_text}
use Rattle.predictions.specs.Starts.RangeTexts.{ranges_text}
use Rattle.predictions.specs.Hosts.{hosts_text}
use Rattle.predictions.specs.Looks.Texts.{look_text}
use Rattle.predictions.specs.Agreements.{sure_kept}
use Rattle.predictions.specs.Texts.{prediction_text}
use Rattle.predictions.specs.declared.course.Manner.{Manner}
use Rattle.predictions.specs.declared.course.Manner.TheVariants as manners
use Rattle.predictions.specs.declared.verdict.Verdict.{Verdict}
use Rattle.trace_views.specs.AdviceText.{live_line}
use Rattle.trace_views.specs.Enough.{enough_text, is_sure}
use Rattle.trace_views.specs.Json.{line_of}
use Rattle.trace_views.specs.Outlooks.{IsOutlook, tells_looks}
use Rattle.trace_views.specs.PredictionJson.{prediction_object}
use Rattle.trace_views.specs.declared.outlook.Outlook.{Outlook}
use Rattle.view_kinds.specs.declared.view.AskedPrediction.{AskedPrediction}
use Rattle.view_kinds.specs.declared.view.PredictionForm.{PredictionForm}
use Rattle.view_kinds.specs.declared.view.PredictionForm.TheVariants as forms

-- what comes of it if the hypervisor looks as QEMU does, if that is told
abbrev pub told_text : Outlook → List ℕ
told_text outlook = if tells_looks outlook then look_text outlook.looks else []

-- a prediction beside the limit of its downtime, what comes of it if the hypervisor looks as QEMU does, the ranges over
-- starts, the shares of the link, and what is enough for the limit
abbrev pub outlook_text : ℕ → Outlook → List ℕ
outlook_text limit outlook = prediction_text limit outlook.agreement outlook.prediction outlook.errors
    ++ (told_text outlook
    ++ (ranges_text outlook.ranges
    ++ (share_text outlook.share ++ enough_text (is_sure limit outlook) outlook.remedies)))

-- the words that run a live migration with the settings: it goes by Clark's rounds, and performs no plan of looks
abbrev pub run_text : Manner → MigrationSettings → List ℕ
run_text manners.Looks settings = []
run_text manners.Rounds settings = live_line settings

-- these, and the words that set the same limits
abbrev pub predicted_text : MigrationSettings → Limits → Outlook → List ℕ
predicted_text settings limits outlook = outlook_text limits.downtime outlook
    ++ (run_text outlook.prediction.manner settings ++ hosts_text limits)

-- a prediction in some form
abbrev pub prediction_in : PredictionForm → MigrationSettings → TraceScale → Limits → Outlook → List ℕ
prediction_in forms.Lines settings scale limits outlook = predicted_text settings limits outlook
prediction_in forms.Json settings scale limits outlook = line_of (prediction_object settings scale limits outlook)

-- what is predicted over a log, in some form, and whether the limit is kept, if that is sure
pub record IsPredictionView (log : GuestTouches) (asked : AskedPrediction) (text : List ℕ) (kept : Verdict) : Type
    0 where
  pub outlook : Outlook
  pub is_outlook : IsOutlook log asked outlook
  pub text_is : text ≡ prediction_in asked.form asked.settings asked.scale asked.limits outlook
  pub kept_is : kept ≡ sure_kept asked.limits.downtime outlook.agreement outlook.prediction.cost outlook.errors
