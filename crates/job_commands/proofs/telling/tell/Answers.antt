use Rattle.std.proofs.Common.{List, ℕ, subst}
use Rattle.job_commands.proofs.Told.{told}
use Rattle.job_commands.specs.Ends.{IsTold}
use Rattle.job_commands.proofs.telling.tell.Goals as goal

pub returns : goal.returns
returns g c =
    subst (λ (t : List ℕ). IsTold t (g.E.Sink.contents c.args.faults.now) (g.E.Sink.contents c.write_out.new.sink)
    (g.E.Sink.has_failed c.write_out.new.sink))
    c.as_bytes.ensures.value
    (told _ _ _ c.as_bytes.result.now c.write_out.result c.write_out.ensures.written c.write_out.ensures.part
    c.write_out.ensures.failed)
