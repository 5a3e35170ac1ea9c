use Rattle.std.proofs.Common.{◌<◌, ℕ, replicate, sym, ap, ◌∙◌, arith}
use Rattle.stream_check.proofs.Held.{page_at_first}
use Rattle.stream_check.proofs.bytes.make_page.Goals as goal

pub bring_on-requires-clause-bytes : goal.bring_on-requires-clause-bytes
bring_on-requires-clause-bytes g c =
    let trace = g.W.WriteLog.trace c.args.trace.now in
    let low : c.args.page < trace.pages = omega (arith, c.requires.page, c.requires.of.0) in
    c.clear.ensures ∙ ap (λ (n : ℕ). replicate n 0) c.requires.room
    ∙ sym (page_at_first trace c.args.page c.shape.ensures.is_trace low)
