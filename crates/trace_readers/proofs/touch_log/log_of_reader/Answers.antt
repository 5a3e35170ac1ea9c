use Rattle.std.proofs.Common.{ap, length, map, inr, arith}
use Rattle.std.proofs.lemmas.List.{length-map}
use Rattle.std.proofs.lemmas.Result.{err_from_is_err_and}
use Rattle.migration_model.specs.Trace.{trace_with}
use Rattle.migration_model.specs.Touches.{touch_of, AreTouches}
use Rattle.migration_model.proofs.Touches.{AreTouches-from_trace}
use Rattle.trace_readers.proofs.touch_log.log_of_reader.Goals as goal

pub returns-in_err-write-clause-refused : goal.returns-in_err-write-clause-refused
returns-in_err-write-clause-refused c =
    let p = err_from_is_err_and c.from_residual-in_err-write.result c.from_residual-in_err-write.ensures.1 in
    rw (p.1, p.2) (inr (rw c.loop.invariant.bytes at c.in_err-write.ensures.refused))

pub returns-in_err-finish-clause-refused : goal.returns-in_err-finish-clause-refused
returns-in_err-finish-clause-refused c =
    let p = err_from_is_err_and c.from_residual-in_err-finish.result c.from_residual-in_err-finish.ensures.1 in
    rw (p.1, p.2) (inr (rw c.loop.invariant.bytes at c.in_err-finish.ensures.refused))

pub invariant_of-result : goal.invariant_of-result
invariant_of-result c =
    let before = c.loop.invariant in
    let reader = c.loop.reader in
    let spells = c.in_ok-finish.ensures.spelled in
    let fits : AreTouches reader.pages (map touch_of reader.writes) =
    AreTouches-from_trace (trace_with reader.version reader.shift reader.pages reader.writes) spells.is_trace in (
      omega (arith, ap length before.touched, length-map reader.writes touch_of, before.read, before.count),
      rw (before.touched, ← before.pages) fits,
    )
