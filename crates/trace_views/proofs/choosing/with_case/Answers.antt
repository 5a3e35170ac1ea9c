use Rattle.trace_views.specs.Advice.{KeepsDown, is_cheaper}
use Rattle.trace_views.proofs.Cheapest.{passes}
use Rattle.trace_views.proofs.choosing.with_case.Goals as goal

pub returns-else-branch : goal.returns-else-branch
returns-else-branch c =
    passes is_cheaper (KeepsDown c.args.log.now c.args.measured.now c.args.down) c.args.lines.now c.args.number
    c.index-lines-number.result c.requires.inside c.index-lines-number.is c.args.found c.requires.before
    (c.in_ok-is_kept.ensures.missed c.if-branch.false)
