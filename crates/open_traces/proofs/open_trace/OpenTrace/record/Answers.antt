use Rattle.std.proofs.Common.{◌≡◌, ◌∙◌, List, ℕ, ap, drop, get_or, length, arith}
use Rattle.migration_model.specs.TraceReading.{length_in, write_in}
use Rattle.open_traces.proofs.Opened.{at_trace}
use Rattle.open_traces.proofs.RecordPlaces.{begin_at, get_or-begins, length-begins, record_whole, record_within}
use Rattle.open_traces.proofs.RecordPlaces.{record_write}
use Rattle.open_traces.proofs.open_trace.OpenTrace.record.Goals as goal

pub bounds-self-inside-index : goal.bounds-self-inside-index
bounds-self-inside-index c =
    let is = at_trace c.args.self.now _ _ _ _ _ _ c.self.view_is c.self.invariant in
    omega (arith, c.requires, ap length is.begins_are, length-begins c.args.self.now.writes)

pub split_at-requires : goal.split_at-requires
split_at-requires c =
    let trace = c.args.self.now in
    let is = at_trace trace _ _ _ _ _ _ c.self.view_is c.self.invariant in
    let here : get_or c.self.inside.begins.now c.args.index 0 ≡ begin_at trace.writes c.args.index =
    ap (λ (l : List ℕ). get_or l c.args.index 0) is.begins_are ∙ get_or-begins trace.writes c.args.index 0 c.requires in
    omega (arith, here, record_within trace c.self.inside.bytes.now c.args.index is.spells c.requires)

pub returns-clause-whole : goal.returns-clause-whole
returns-clause-whole c =
    let trace = c.args.self.now in
    let is = at_trace trace _ _ _ _ _ _ c.self.view_is c.self.invariant in
    let bytes = c.self.inside.bytes.now in
    let here : get_or c.self.inside.begins.now c.args.index 0 ≡ begin_at trace.writes c.args.index =
    ap (λ (l : List ℕ). get_or l c.args.index 0) is.begins_are ∙ get_or-begins trace.writes c.args.index 0 c.requires in
    let there = c.split_at.ensures.back ∙ ap (λ (n : ℕ). drop n bytes) here in
    omega (
      arith,
      ap length there,
      ap length_in there,
      record_whole trace bytes c.args.index is.spells c.requires,
    )

pub returns-clause-write : goal.returns-clause-write
returns-clause-write c =
    let trace = c.args.self.now in
    let is = at_trace trace _ _ _ _ _ _ c.self.view_is c.self.invariant in
    let bytes = c.self.inside.bytes.now in
    let here : get_or c.self.inside.begins.now c.args.index 0 ≡ begin_at trace.writes c.args.index =
    ap (λ (l : List ℕ). get_or l c.args.index 0) is.begins_are ∙ get_or-begins trace.writes c.args.index 0 c.requires in
    ap write_in (c.split_at.ensures.back ∙ ap (λ (n : ℕ). drop n bytes) here)
    ∙ record_write trace bytes c.args.index is.spells c.requires
