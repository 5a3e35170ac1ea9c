use Rattle.std.proofs.Common.{arith}
use Rattle.std.proofs.lemmas.List.{take_rest}
use Rattle.page_message.specs.Shapes.{shape_of}
use Rattle.page_message.proofs.Found.{reads}
use Rattle.page_message.proofs.decoding.read_view.Goals as goal

pub returns-clause-found : goal.returns-clause-found
returns-clause-found c =
    let read = reads (shape_of c.args.shape.now) c.args.bytes.now (λ i. omega (arith, c.type_inv.bytes i))
    c.in_ok-size.ensures.accepted in
    rw (
      c.in_ok-size.ensures.size,
      c.u32_in-page.ensures,
      c.u32_in-stamp.ensures,
      take_rest c.args.bytes.now 4,
      c.body_at-body.ensures,
    ) read.spelled
