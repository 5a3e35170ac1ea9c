use Rattle.std.proofs.lemmas.Nat.{div-add-mod'}
use Rattle.predictions.proofs.Drawing.{share_enough, share_least}
use Rattle.predictions.proofs.redrawn.roots.share_above.Goals as goal

pub returns-clause-enough : goal.returns-clause-enough
returns-clause-enough c = share_enough c.args.n c.args.part c.args.whole _ _ c.quotient_above.result
    (div-add-mod' c.args.n c.args.whole) c.quotient_above.ensures.enough

pub returns-clause-least : goal.returns-clause-least
returns-clause-least c k high = share_least c.args.n c.args.part c.args.whole _ _ c.quotient_above.result k
    c.requires.some (div-add-mod' c.args.n c.args.whole) c.quotient_above.ensures.least high
