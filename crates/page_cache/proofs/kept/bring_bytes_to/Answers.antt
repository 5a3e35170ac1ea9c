use Rattle.std.proofs.Common.{◌≡◌, ◌^◌, ℕ, length, replicate, sym, ap, ◌∙◌}
use Rattle.migration_model.proofs.Pages.{length-page_at, zero_page}
use Rattle.page_cache.proofs.kept.bring_bytes_to.Goals as goal

pub bring_on-requires-2-clause-bytes : goal.bring_on-requires-2-clause-bytes
bring_on-requires-2-clause-bytes g c =
    let trace = c.args.source.now in
    let size : length c.args.bytes.now ≡ 2 ^ trace.shift = ap length c.requires.kept.2
    ∙ length-page_at trace c.args.page c.args.from.version c.shape.ensures.is_trace c.requires.kept.0 in
    c.fill.ensures.after (λ y is. is) ∙ ap (λ (n : ℕ). replicate n 0) size
    ∙ sym (zero_page trace.shift trace.pages c.args.page c.requires.kept.0)
