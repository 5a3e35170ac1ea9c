use Rattle.std.proofs.Common.{ℕ, List, ◌++◌, length, ap, ◌∙◌, arith}
use Rattle.trace_codec.proofs.Spelling.{write_parts}
use Rattle.trace_codec.proofs.encoding.push_write.Goals as goal

pub returns : goal.returns
returns c =
    let head = c.in_ok-extend_from_slice.ensures.items ∙ ap (λ (h : List ℕ). c.args.text.now.items ++ h)
    c.head_of.ensures in
    write_parts c.args.write.now c.write.inside.tick c.write.inside.page c.write.inside.offset c.len-len.result _ _ _ _
    (ap (λ w. w.tick) c.write.view_is) (ap (λ w. w.page) c.write.view_is)
    (ap (λ w. w.offset) c.write.view_is) (omega (arith, c.len-len.ensures, ap (λ w. length w.bytes) c.write.view_is))
    (c.deref.ensures.value ∙ ap (λ w. w.bytes) c.write.view_is) head
    c.in_ok-extend_from_slice-2.ensures.items
