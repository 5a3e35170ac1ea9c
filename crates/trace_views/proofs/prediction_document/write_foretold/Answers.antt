use Rattle.std.proofs.Common.{◌≡◌, ◌++◌, subst, append_assoc}
use Rattle.predictions.specs.Predictions.{GuestPrediction}
use Rattle.trace_views.specs.PredictionJson.{migration_object}
use Rattle.trace_views.proofs.prediction_document.write_foretold.Goals as goal

pub returns : goal.returns
returns c =
    let C : GuestPrediction → Type 0 = λ p. c.end_object.new.self ≡ c.args.out.now
    ++ migration_object p c.args.errors.now in
    subst C c.prediction.view_is
    (rw (
      c.in_ok-end_object.ensures,
      c.in_ok-write_errors.ensures,
      c.in_ok-number_member.ensures,
      c.in_ok-write_cost_numbers.ensures,
      c.in_ok-text_member.ensures,
      c.word.ensures,
      c.in_ok-begin_object.ensures,
    ) (simp append_assoc))
