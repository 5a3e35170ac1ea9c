use Rattle.std.proofs.Common.{subst}
use Rattle.page_cache.specs.Cache.{AreKept}
use Rattle.live_tasks.specs.CopierStates.{RoundStateView}
use Rattle.live_tasks.proofs.copier_state.RoundState.close.Goals as goal

pub returns-clause-kept : goal.returns-clause-kept
returns-clause-kept g c = subst (λ (d : RoundStateView). AreKept d.cache.trace d.cache.entries) c.self.view_is
    c.into_pages.ensures.kept
