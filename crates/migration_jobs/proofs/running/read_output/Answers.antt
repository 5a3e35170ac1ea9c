use Rattle.std.proofs.Common.{sym, subst}
use Rattle.std.specs.Prelude.{IfOk}
use Rattle.std.proofs.lemmas.Result.{IfErr-weaker, IfOk-weaker, err_from_is_err_and}
use Rattle.migration_jobs.specs.Bytes.{bytes_in}
use Rattle.migration_jobs.specs.Output.{IsLiveJob, IsOtherJob, IsOutput, RefusesOutput}
use Rattle.migration_jobs.proofs.Runs.{made_run}
use Rattle.migration_jobs.proofs.running.read_output.Goals as goal

pub returns-in-Image-clause-made : goal.returns-in-Image-clause-made
returns-in-Image-clause-made g c =
    let known = g.S.Source.remaining c.args.source.now in
    subst (λ j. IfOk c.image_output.result (λ output. IsOutput known j (bytes_in output))) (sym c.in-Image.is)
    (IfOk-weaker c.image_output.result _ _ (λ output made. made_run _ (bytes_in output) known made)
    c.image_output.ensures.made)

pub returns-in_ok-report_output-in-Report-clause-made : goal.returns-in_ok-report_output-in-Report-clause-made
returns-in_ok-report_output-in-Report-clause-made g c =
    let known = g.S.Source.remaining c.args.source.now in
    subst (λ j. IsOutput known j c.in_ok-report_output-in-Report.field-0.items) (sym c.in-Report.is)
    (made_run _ c.in_ok-report_output-in-Report.field-0.items known c.in_ok-report_output-in-Report.ensures.made)

pub returns-in_ok-memory-in-Live-clause-made : goal.returns-in_ok-memory-in-Live-clause-made
returns-in_ok-memory-in-Live-clause-made g c =
    let known = g.S.Source.remaining c.args.source.now in
    subst (λ j. IsOutput known j c.in_ok-memory-in-Live.memory.bytes) (sym c.in-Live.is)
    (made_run _ c.in_ok-memory-in-Live.memory.bytes known c.in_ok-memory-in-Live.ensures.made)

pub returns-in_ok-sweep_output-in-Sweep-clause-made : goal.returns-in_ok-sweep_output-in-Sweep-clause-made
returns-in_ok-sweep_output-in-Sweep-clause-made g c =
    let known = g.S.Source.remaining c.args.source.now in
    subst (λ j. IsOutput known j c.in_ok-sweep_output-in-Sweep.field-0.items) (sym c.in-Sweep.is)
    (made_run _ c.in_ok-sweep_output-in-Sweep.field-0.items known
    (rw c.deref.ensures.value at c.in_ok-sweep_output-in-Sweep.ensures.made))

pub returns-in-Image-clause-own : goal.returns-in-Image-clause-own
returns-in-Image-clause-own g c =
    IfErr-weaker c.image_output.result _ _
    (λ e own. own c.args.job.now (subst IsOtherJob (sym c.in-Image.is) tt)) c.image_output.ensures.own

pub returns-in_err-report_output-in-Report-clause-own : goal.returns-in_err-report_output-in-Report-clause-own
returns-in_err-report_output-in-Report-clause-own g c =
    let p = err_from_is_err_and c.from_residual.result c.from_residual.ensures.1 in
    rw p.1 (subst (RefusesOutput c.args.job.now) (sym p.2)
    (c.in_err-report_output-in-Report.ensures.own _ (subst IsOtherJob (sym c.in-Report.is) tt)))

pub returns-in_err-memory-in-Live-clause-own : goal.returns-in_err-memory-in-Live-clause-own
returns-in_err-memory-in-Live-clause-own g c =
    let p = err_from_is_err_and c.from_residual-in_err-memory-in-Live.result
    c.from_residual-in_err-memory-in-Live.ensures.1 in
    rw p.1 (subst (RefusesOutput c.args.job.now) (sym p.2)
    (c.in_err-memory-in-Live.ensures.own _ (subst IsLiveJob (sym c.in-Live.is) tt)))

pub returns-in_err-sweep_output-in-Sweep-clause-own : goal.returns-in_err-sweep_output-in-Sweep-clause-own
returns-in_err-sweep_output-in-Sweep-clause-own g c =
    let p = err_from_is_err_and c.from_residual-in_err-sweep_output-in-Sweep.result
    c.from_residual-in_err-sweep_output-in-Sweep.ensures.1 in
    rw p.1 (subst (RefusesOutput c.args.job.now) (sym p.2)
    (c.in_err-sweep_output-in-Sweep.ensures.own _ (subst IsOtherJob (sym c.in-Sweep.is) tt)))
