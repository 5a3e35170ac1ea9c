use Rattle.std.proofs.Common.{arith}
use Rattle.std.proofs.lemmas.Bool.{eq-eqb}
use Rattle.open_traces.proofs.PageWalks.{version_first, version_tells}
use Rattle.open_traces.proofs.open_trace.OpenTrace.is_version.Goals as goal

pub returns-then-stamp-eq0 : goal.returns-then-stamp-eq0
returns-then-stamp-eq0 c = (
  λ always. version_first c.args.self.now c.args.page c.args.stamp (omega (arith, c.if-stamp-eq0.true)),
  λ is. eq-eqb c.args.stamp 0 c.if-stamp-eq0.true,
)

pub returns-else-stamp-eq0 : goal.returns-else-stamp-eq0
returns-else-stamp-eq0 c =
    version_tells c.args.self.now c.args.page c.args.stamp c.page.result (omega (arith, c.if-stamp-eq0.false))
    c.requires c.page.ensures
