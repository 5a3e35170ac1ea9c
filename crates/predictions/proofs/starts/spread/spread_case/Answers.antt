use Rattle.std.proofs.Common.{◌<◌, ap, subst, sym, ◌∙◌}
use Rattle.predictions.specs.Starts.{case_from, count_of}
use Rattle.predictions.specs.declared.starts.cases.Starts.{Starts}
use Rattle.predictions.proofs.SpreadStarts.{spread_accepted}
use Rattle.predictions.proofs.starts.spread.spread_case.Goals as goal

pub case-requires-clause-number : goal.case-requires-clause-number
case-requires-clause-number c =
    subst (λ (s : Starts). c.args.number < count_of s c.args.last_tick) (sym c.spread.ensures.starts) c.requires.number

pub case-requires-clause-accepted : goal.case-requires-clause-accepted
case-requires-clause-accepted c =
    spread_accepted c.args.settings.now c.spread.result c.args.last_tick c.spread.ensures.starts
    c.spread.ensures.in_range c.requires.low

pub returns : goal.returns
returns c =
    c.case.ensures
    ∙ ap (λ (s : Starts). case_from c.args.settings.now s c.args.last_tick c.args.number) c.spread.ensures.starts
