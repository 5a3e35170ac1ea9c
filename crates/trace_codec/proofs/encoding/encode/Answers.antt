use Rattle.std.proofs.Common.{◌≤◌, take, length, ap, ◌∙◌, arith}
use Rattle.std.proofs.lemmas.List.{take_all}
use Rattle.trace_codec.proofs.Spelling.{text_is}
use Rattle.trace_codec.proofs.encoding.encode.Goals as goal

pub returns-clause-text : goal.returns-clause-text
returns-clause-text c =
    let items = c.deref-write-items.result.now in
    let high : length items ≤ c.loop-write.write-index = omega arith in
    text_is c.args.trace.now c.loop-write.text.items (take c.loop-write.write-index items) c.loop-write.invariant
    (take_all c.loop-write.write-index items high ∙ c.deref-write-items.ensures.value
    ∙ ap (λ t. t.writes) c.trace.view_is)

pub returns-clause-spells : goal.returns-clause-spells
returns-clause-spells c =
    let items = c.deref-write-items.result.now in
    let high : length items ≤ c.loop-write.write-index = omega arith in
    record {
      is_trace = c.shape-shape.ensures.is_trace;
      text = text_is c.args.trace.now c.loop-write.text.items (take c.loop-write.write-index items)
          c.loop-write.invariant
          (take_all c.loop-write.write-index items high ∙ c.deref-write-items.ensures.value
          ∙ ap (λ t. t.writes) c.trace.view_is);
    }
