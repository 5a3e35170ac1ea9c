use Rattle.std.proofs.lemmas.Result.{err_from_is_err_and}
use Rattle.migration_jobs.proofs.Runs.{only_run}
use Rattle.migration_jobs.proofs.running.run.Goals as goal

pub returns-in_err-output-clause-only : goal.returns-in_err-output-clause-only
returns-in_err-output-clause-only g c bytes trace is spells =
    let p = err_from_is_err_and c.from_residual.result c.from_residual.ensures.1 in
    rw (p.1, p.2) (only_run (g.S.Source.remaining c.args.source.now) bytes trace c.in_err-output.field-0.0 is spells
    c.in_err-output.ensures.refused)
