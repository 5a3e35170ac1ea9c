use Rattle.std.proofs.Common.{subst}
use Rattle.predictions.specs.Remedies.{IsFirst}
use Rattle.predictions.specs.Remedies.Trials.{EndsWith}
use Rattle.predictions.specs.declared.remedies.change.Change.TheVariants as changes
use Rattle.predictions.specs.declared.remedies.way.Way.{Way}
use Rattle.predictions.proofs.remedies.ending.latest_start.Goals as goal

pub returns : goal.returns
returns g c =
    subst (λ (way : Way). IsFirst (EndsWith (g.T.Timeline.pages c.args.timeline.now)
    (g.T.Timeline.touches c.args.timeline.now) c.args.trial.now changes.Start) way c.first_on.result)
    c.way_back-back.ensures c.first_on.ensures
