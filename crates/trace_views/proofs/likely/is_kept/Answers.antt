use Rattle.std.proofs.Common.{◌∙◌, sym}
use Rattle.trace_views.proofs.LikelyCases.{not_likely}
use Rattle.trace_views.proofs.likely.is_kept.Goals as goal

pub returns-clause-missed : goal.returns-clause-missed
returns-clause-missed c =
    λ lost. not_likely c.args.log.now c.args.measured.now c.args.down c.args.line.now c.in_ok-errors.errors
    c.in_ok-errors.ensures (sym c.is_likely_case.ensures ∙ lost)
