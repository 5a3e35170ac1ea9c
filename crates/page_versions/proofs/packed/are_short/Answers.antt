use Rattle.std.proofs.Common.{◌≡◌, ℕ, ◌+◌, ◌<◌, ◌∷◌, [], length, take, get_or, sym, ap, ◌∙◌, arith}
use Rattle.std.specs.List.{fold}
use Rattle.std.proofs.lemmas.List.{take_more}
use Rattle.std.proofs.lemmas.List.Sums.{fold-append}
use Rattle.migration_model.specs.Trace.{GuestWrite}
use Rattle.guest_log.specs.Writes.{no_write}
use Rattle.migration_model.proofs.Writes.{page_size_high}
use Rattle.page_versions.proofs.packed.are_short.Goals as goal

pub loop-index-preserved : goal.loop-index-preserved
loop-index-preserved g c =
    let trace = g.W.WriteLog.trace c.args.trace.now in
    let i = c.loop-index.index in
    let add : ℕ → GuestWrite → ℕ = λ sum write. sum + length write.bytes in
    let low : i < length trace.writes = omega (arith, c.loop-index-test.true, c.shape-count.ensures.writes) in
    let write : GuestWrite = get_or trace.writes i no_write in
    let own : length c.write.result.bytes.now ≡ length write.bytes = ap (λ (w : GuestWrite). length w.bytes)
    c.write.ensures in
    let fits = c.shape-count.ensures.is_trace.writes.each i no_write low in
    let high = page_size_high trace.shift c.shape-count.ensures.is_trace.size.shift_high in
    record {
      sum = (λ j. c.loop-index.invariant.sum j + own j)
          ∙ sym (ap (fold add 0) (take_more trace.writes i no_write low)
          ∙ fold-append add 0 (take i trace.writes) (write ∷ []));
      small = omega (arith, c.loop-index.invariant.small, own, fits.within, high);
    }
