use Rattle.std.proofs.Common.{◌≡◌, ◌*◌, ◌^◌, ◌∙◌, ℕ, ap, length, sym}
use Rattle.open_checks.proofs.BaseWords.{image_is}
use Rattle.c_answers.specs.Memories.{memory_length}
use Rattle.c_answers.proofs.unstamped.test_open_memory.Goals as goal

pub returns-then-memory-shape-clause-only : goal.returns-then-memory-shape-clause-only
returns-then-memory-shape-clause-only c = λ same room.
    let trace = c.args.trace.now in
    let shape = c.shape-shape in
    let len : length c.args.memory.now ≡ memory_length trace =
    ap length same ∙ (image_is trace c.args.count shape.ensures.is_trace).1 in
    absurd (c.if-memory-shape.true (len ∙ sym (λ i. shape.ensures.pages i * 2 ^ shape.ensures.shift i)
    ∙ ap (λ (n : ℕ). shape.result.pages * n) (sym c.page_size-size.ensures)))
