use Rattle.std.proofs.Common.{◌≡◌, ap, refl}
use Rattle.predictions.specs.Predictions.{GuestPrediction}
use Rattle.trace_views.proofs.prediction_document.write_sure.Goals as goal

pub returns : goal.returns
returns c =
    let same = c.prediction.view_is in
    let recorded : c.prediction.inside.recorded ≡ c.args.outlook.now.prediction.recorded =
    ap (λ (p : GuestPrediction). p.recorded) same in
    let cost : c.prediction.inside.cost ≡ c.args.outlook.now.prediction.cost =
    ap (λ (p : GuestPrediction). p.cost) same in
    rw (
      c.in_ok-write_answers.ensures,
      c.verdict-converges.ensures,
      c.kept-kept.ensures,
      recorded,
      cost,
    ) refl
