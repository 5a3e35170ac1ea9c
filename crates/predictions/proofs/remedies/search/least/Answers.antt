use Rattle.std.proofs.Common.{ℕ, Option, refl, subst, sym}
use Rattle.predictions.specs.Remedies.{IsFound, TurnsNowhere}
use Rattle.predictions.specs.Remedies.Trials.{ReachesWith}
use Rattle.predictions.specs.declared.remedies.way.Way.{Way}
use Rattle.predictions.proofs.Turns.{found_unturned}
use Rattle.predictions.proofs.remedies.search.least.Goals as goal

pub returns-in-None : goal.returns-in-None
returns-in-None g c =
    let Keeps : ℕ → Type 0 = ReachesWith c.args.goal.aim (g.T.Timeline.pages c.args.timeline.now)
    (g.T.Timeline.touches c.args.timeline.now) c.args.trial.now c.args.goal.change in
    let is_kept = c.reaches_with-is_reached.result in
    let nowhere = subst (λ (way : Way). TurnsNowhere Keeps is_kept way) c.far_way-way.ensures
    (c.in-None.ensures.none refl) in
    record {
      is_kept = is_kept;
      answered = c.reaches_with-is_reached.ensures;
      found = subst (λ (least : Option ℕ). IsFound Keeps c.args.start is_kept least) (sym c.unturned.ensures)
          (found_unturned Keeps c.args.start is_kept nowhere);
    }
