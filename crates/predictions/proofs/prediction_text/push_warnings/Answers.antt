use Rattle.std.proofs.Common.{◌≡◌, ◌++◌, subst, append_assoc}
use Rattle.predictions.specs.Predictions.{GuestPrediction}
use Rattle.predictions.specs.Texts.{warnings}
use Rattle.predictions.proofs.prediction_text.push_warnings.Goals as goal

pub returns : goal.returns
returns c =
    let C : GuestPrediction → Type 0 = λ p. c.push_if-2.new.text.items ≡ c.args.text.now.items ++ warnings p in
    subst C c.prediction.view_is
    (rw (
      c.in_ok-push_if-2.ensures,
      c.in_ok-push_if.ensures,
      c.is_early.ensures,
      c.warning_of.ensures,
    ) (simp append_assoc))
