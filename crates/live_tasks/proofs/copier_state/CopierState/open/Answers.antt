use Rattle.std.proofs.Common.{sym, subst}
use Rattle.page_cache.specs.Cache.{AreKept}
use Rattle.live_tasks.specs.CopierStates.{CopierStateView}
use Rattle.live_tasks.proofs.copier_state.CopierState.open.Goals as goal

pub with_pages-requires : goal.with_pages-requires
with_pages-requires g c = subst (λ (d : CopierStateView). AreKept c.args.source d.pages.entries) (sym c.self.view_is)
    c.requires
