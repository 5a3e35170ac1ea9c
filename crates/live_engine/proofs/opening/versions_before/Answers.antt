use Rattle.std.proofs.Common.{◌<◌, ℕ, List, slice_index, sym, ap, ◌∙◌, arith}
use Rattle.std.proofs.lemmas.List.{get_or-replicate}
use Rattle.std.proofs.lemmas.Result.{IfOk-weaker}
use Rattle.migration_model.specs.Versions.{version_before}
use Rattle.live_engine.proofs.AtFirst.{version_at_first}
use Rattle.live_engine.proofs.opening.versions_before.Goals as goal

pub returns-then-tick-eq0-clause-each : goal.returns-then-tick-eq0-clause-each
returns-then-tick-eq0-clause-each g c =
    let trace = g.W.WriteLog.trace c.args.trace.now in
    let pages = c.shape-pages.result.pages in
    IfOk-weaker c.no_versions.result _ _
    (λ v none page low.
    let within : page < pages = omega (arith, low, c.shape-pages.ensures.pages) in
    ap (λ (xs : List ℕ). slice_index xs page) none ∙ get_or-replicate pages page 0 0 within
    ∙ sym (version_at_first trace page) ∙ ap (version_before trace page) (sym c.if-tick-eq0.true))
    c.no_versions.ensures.versions
