use Rattle.std.proofs.Common.{◌≡◌, ℕ, ◌-◌, get_or, length, sym, ap, ◌∙◌, arith}
use Rattle.std.proofs.lemmas.Bool.{eqb-true}
use Rattle.migration_model.specs.Trace.{GuestWrite}
use Rattle.page_versions.specs.Pages.{write_at}
use Rattle.page_versions.proofs.Pages.{lost_before}
use Rattle.page_versions.proofs.bytes.released_at.Goals as goal

pub returns-then-is_release-clause-lost : goal.returns-then-is_release-clause-lost
returns-then-is_release-clause-lost g c =
    let trace = g.W.WriteLog.trace c.args.trace.now in
    let places = c.args.places.now in
    let k : ℕ = c.loop-index.index - 1 in
    let none : length (write_at trace.writes (get_or places k 0)).bytes ≡ 0 =
    ap (λ (w : GuestWrite). length w.bytes) (sym c.write.ensures)
    ∙ eqb-true _ _ (sym c.is_release.ensures ∙ c.if-is_release.true) in
    lost_before trace places k c.requires.is_trace c.requires.places
    (omega (arith, c.loop-index.invariant, c.loop-index-test.true)) none
