use Rattle.std.proofs.Common.{◌+◌, ◌≤◌, length, ap, ◌∙◌, arith}
use Rattle.std.specs.List.{sum_by}
use Rattle.std.proofs.lemmas.List.{take_all}
use Rattle.migration_model.specs.Trace.{GuestWrite}
use Rattle.trace_codec.proofs.Made.{counted_short, counted_long}
use Rattle.trace_codec.proofs.building.has_short_text.Goals as goal

pub returns-then-length-gt-MAX_LENGTH : goal.returns-then-length-gt-MAX_LENGTH
returns-then-length-gt-MAX_LENGTH c =
    counted_long c.loop-write.length c.len.result c.loop-write.write-index c.args.writes.now c.write-item.result
    (omega arith) c.write-item.is
    c.loop-write.invariant.sum (omega (arith, c.len.ensures, ap (λ w. length w.bytes) c.write.view_is))
    c.if-length-gt-MAX_LENGTH.true

pub returns : goal.returns
returns c version shift pages =
    let writes = c.args.writes.now in
    let high : length writes ≤ c.loop-write.write-index = omega arith in
    counted_short version shift pages c.loop-write.length writes
    (c.loop-write.invariant.sum ∙ ap (λ ws. 16 + sum_by (λ (w : GuestWrite). 16 + length w.bytes) ws)
    (take_all c.loop-write.write-index writes high))
    c.loop-write.invariant.short
