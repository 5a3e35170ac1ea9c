use Rattle.std.proofs.Common.{◌≢◌, inl, arith}
use Rattle.std.proofs.lemmas.Bool.{eq-eqb, false≢true}
use Rattle.open_traces.proofs.PageWalks.{still_tells, version_late, version_still}
use Rattle.open_traces.proofs.open_trace.OpenTrace.is_version_after.Goals as goal

pub returns-then-version-count : goal.returns-then-version-count
returns-then-version-count c = (
  λ never. absurd (false≢true never),
  λ is. absurd (version_late c.args.self.now c.args.page c.args.version c.args.count
      (omega (arith, c.if-version-count.true)) is),
)

pub returns-then-next-eq0 : goal.returns-then-next-eq0
returns-then-next-eq0 c = (
  λ always. version_still c.args.self.now c.args.page c.args.version c.args.count c.behind-next.result c.requires.is
      (omega (arith, c.if-version-count.false)) c.behind-next.ensures (inl (omega (arith, c.if-next-eq0.true))),
  λ is. eq-eqb c.behind-next.result 0 c.if-next-eq0.true,
)

pub returns-else-next-eq0 : goal.returns-else-next-eq0
returns-else-next-eq0 c =
    let some : c.behind-next.result ≢ 0 = λ none. omega (arith, none, c.if-next-eq0.false) in
    still_tells c.args.self.now c.args.page c.args.version c.args.count c.behind-next.result c.requires.is
    (omega (arith, c.if-version-count.false)) c.behind-next.ensures some
