use Rattle.std.proofs.Common.{◌^◌, List, ℕ, [], Option, option_map, unwrap_or, length, sym, ap, ◌∙◌}
use Rattle.migration_model.specs.Trace.{GuestTrace}
use Rattle.migration_model.specs.Versions.{page_at}
use Rattle.migration_model.proofs.Pages.{length-page_at}
use Rattle.page_cache.specs.Cache.{KeptPage}
use Rattle.live_tasks.proofs.copier.SharedRound.encode.Goals as goal

pub append_frame-requires-clause-whole : goal.append_frame-requires-clause-whole
append_frame-requires-clause-whole g c =
    let trace = (g.W.WriteLog.trace c.args.self.now.trace.now) in
    let stamp = c.min-stamp.result in
    let bytes = ap (λ (o : Option (List ℕ)). unwrap_or o [])
    (c.in-Some.ensures ∙ ap (option_map (λ (k : KeptPage). k.bytes)) c.in_ok-keep.ensures.last) in
    ap length (bytes ∙ ap (λ (t : GuestTrace). page_at t c.args.page stamp) c.requires.trace)
    ∙ length-page_at trace c.args.page stamp c.shape-shape.ensures.is_trace c.requires.page
    ∙ ap (λ n. 2 ^ n) (sym c.shape-shape.ensures.shift)
