use Rattle.std.proofs.Common.{refl}
use Rattle.predictions.specs.Remedies.Trials.{ReachesWith}
use Rattle.predictions.proofs.Turns.{turns_between}
use Rattle.predictions.proofs.remedies.search.closer.Goals as goal

pub returns-in-None : goal.returns-in-None
returns-in-None g c =
    absurd (turns_between (ReachesWith c.args.search.goal.aim (g.T.Timeline.pages c.args.timeline.now)
    (g.T.Timeline.touches c.args.timeline.now) c.args.trial.now c.args.search.goal.change) c.args.search.is_reached
    c.args.turn.before c.args.turn.at (c.in-None.ensures.none refl) c.requires.turned)
