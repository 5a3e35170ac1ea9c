use Rattle.std.proofs.Common.{◌∙◌, ap, drop, length, arith}
use Rattle.migration_model.specs.TraceReading.{write_in}
use Rattle.trace_readers.proofs.Texts.{held_whole, held_within, held_write, within_count}
use Rattle.trace_readers.proofs.held_trace.HeldTrace.record.Goals as goal

pub index-requires : goal.index-requires
index-requires c =
    let low = within_count _ _ _ _ _ _ c.self.inside.bytes.items c.self.view_is c.requires in
    omega (arith, low, c.self.invariant.are_positions.count_is)

pub split_at-requires : goal.split_at-requires
split_at-requires c =
    let low = within_count _ _ _ _ _ _ c.self.inside.bytes.items c.self.view_is c.requires in
    let inside = held_within _ _ _ _ _ c.index.result.now _ _ c.self.invariant low in
    omega (arith, inside, c.index.ensures, ap length c.deref.ensures.value)

pub returns-clause-whole : goal.returns-clause-whole
returns-clause-whole c =
    let low = within_count _ _ _ _ _ _ c.self.inside.bytes.items c.self.view_is c.requires in
    rw (c.split_at.ensures.back, c.deref.ensures.value, c.index.ensures)
    (held_whole _ _ _ _ _ c.index.result.now _ _ c.self.invariant low)

pub returns-clause-write : goal.returns-clause-write
returns-clause-write c =
    let low = within_count _ _ _ _ _ _ c.self.inside.bytes.items c.self.view_is c.requires in
    let here = c.split_at.ensures.back ∙ (λ i. drop (c.index.ensures i) (c.deref.ensures.value i)) in
    ap write_in here ∙ held_write c.args.self.now _ _ _ _ _ c.index.result.now _ _ c.self.invariant c.self.view_is low
