use Rattle.std.proofs.Common.{◌-◌, get_or, length, ap, arith}
use Rattle.migration_model.specs.Trace.{GuestWrite}
use Rattle.migration_model.proofs.Writes.{page_size_high}
use Rattle.guest_log.specs.Writes.{no_write}
use Rattle.page_versions.proofs.packed.page_of.Goals as goal

pub push-requires-clause-short : goal.push-requires-clause-short
push-requires-clause-short g c =
    let trace = g.W.WriteLog.trace c.args.trace.now in
    let i = c.loop-place.place-index in
    let place = get_or c.args.places.now i 0 in
    let at = c.requires.places i 0 (omega (arith, c.loop-place-test.true)) in
    let fits = c.requires.is_trace.writes.each (place - 1) no_write (omega (arith, at.0, at.1)) in
    omega (
      arith,
      ap (λ (w : GuestWrite). length w.bytes) c.write.ensures,
      fits.within,
      page_size_high trace.shift c.requires.is_trace.size.shift_high,
    )
