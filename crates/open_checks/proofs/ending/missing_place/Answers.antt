use Rattle.std.proofs.Common.{◌≡◌, ℕ, sym, subst, arith}
use Rattle.page_versions.specs.Index.{version_after}
use Rattle.open_checks.proofs.Missing.{next_within, none_missing}
use Rattle.open_checks.proofs.ending.missing_place.Goals as goal

pub returns-then-next-stop-clause-place : goal.returns-then-next-stop-clause-place
returns-then-next-stop-clause-place c =
    none_missing c.args.trace.now c.args.stop c.args.page c.args.word c.saturating_sub.result c.behind-next.result
    c.saturating_sub.ensures c.behind-next.ensures (omega (arith, c.if-next-stop.true))

pub returns-clause-within : goal.returns-clause-within
returns-clause-within c =
    let trace = c.args.trace.now in
    next_within trace c.args.page c.saturating_sub.result c.behind-next.result
    (subst (λ (v : ℕ). v ≡ version_after trace c.args.page v) (sym c.saturating_sub.ensures) c.requires.version)
    c.behind-next.ensures
