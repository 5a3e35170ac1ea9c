use Rattle.std.proofs.Common.{◌≡◌, ◌∙◌, ap, drop, length, refl, subst, sym, take, arith}
use Rattle.std.proofs.lemmas.List.{length-drop}
use Rattle.migration_model.specs.Trace.{GuestTrace, Spells}
use Rattle.migration_model.proofs.Traces.{one_trace_lem}
use Rattle.open_traces.specs.Index.{index_length}
use Rattle.open_traces.proofs.Opened.{is_open_as, length-index, shows}
use Rattle.open_traces.proofs.open_trace.OpenTrace.of.Goals as goal

pub split_at-requires-2 : goal.split_at-requires-2
split_at-requires-2 c =
    let size : length c.args.words.now ≡ index_length c.requires.trace = ap length c.requires.is_open.words_are
    ∙ length-index c.requires.trace c.requires.is_open.spells.is_trace in
    omega (
      arith,
      size,
      c.requires.writes_is,
      ap length c.split_at.ensures.back,
      length-drop c.args.header.shape.writes c.args.words.now,
    )

pub split_at-requires-3 : goal.split_at-requires-3
split_at-requires-3 c =
    let n = c.args.header.shape.writes in
    let size : length c.args.words.now ≡ index_length c.requires.trace = ap length c.requires.is_open.words_are
    ∙ length-index c.requires.trace c.requires.is_open.spells.is_trace in
    omega (
      arith,
      size,
      c.requires.writes_is,
      ap length c.split_at.ensures.back,
      length-drop n c.args.words.now,
      ap length c.split_at-2.ensures.back,
      length-drop n c.split_at.result.1.now,
    )

pub invariant_of-result : goal.invariant_of-result
invariant_of-result c =
    let n = c.args.header.shape.writes in
    let shape = c.args.header.shape in
    let more = c.split_at.ensures.back in
    let last = c.split_at-2.ensures.back ∙ ap (drop n) more in
    rw (
      c.split_at.ensures.front,
      c.split_at-2.ensures.front ∙ ap (take n) more,
      c.split_at-3.ensures.front ∙ ap (take n) last,
      c.split_at-3.ensures.back ∙ ap (drop n) last,
    )
    (is_open_as c.requires.trace c.args.header.version shape.shift shape.pages shape.writes n c.args.bytes.now
    c.args.words.now c.requires.is_open c.requires.version_is c.requires.shift_is c.requires.pages_is
    c.requires.writes_is refl)

pub returns-clause-shown : goal.returns-clause-shown
returns-clause-shown c =
    let shape = c.args.header.shape in
    subst (λ (t : GuestTrace). Spells c.args.bytes.now t)
    (sym (shows c.requires.trace c.args.header.version shape.shift shape.pages shape.writes c.args.bytes.now
    c.requires.is_open.spells c.requires.version_is c.requires.shift_is c.requires.pages_is c.requires.writes_is))
    c.requires.is_open.spells

pub returns-clause-only : goal.returns-clause-only
returns-clause-only c = λ trace spells.
    let shape = c.args.header.shape in
    shows c.requires.trace c.args.header.version shape.shift shape.pages shape.writes c.args.bytes.now
    c.requires.is_open.spells c.requires.version_is c.requires.shift_is c.requires.pages_is c.requires.writes_is
    ∙ one_trace_lem c.args.bytes.now c.requires.trace trace c.requires.is_open.spells spells
