use Rattle.dirty_core.proofs.EveryPage.{CaughtUp-run, OnlyDue-run, KnowsMark-run}
use Rattle.dirty_core.proofs.EveryPlace.{KnowsPlace-run, IsOverReads-run}
use Rattle.dirty_core.proofs.RealPages.{IsReal-run, sizes-core_after, at_opening-core_after}
use Rattle.dirty_core.proofs.running.every_page.Goals as goal

pub returns-clause-caught_up : goal.returns-clause-caught_up
returns-clause-caught_up c = CaughtUp-run

pub returns-clause-only_due : goal.returns-clause-only_due
returns-clause-only_due c = OnlyDue-run

pub returns-clause-mark : goal.returns-clause-mark
returns-clause-mark c = KnowsMark-run

pub returns-clause-place : goal.returns-clause-place
returns-clause-place c = KnowsPlace-run

pub returns-clause-real : goal.returns-clause-real
returns-clause-real c = IsReal-run

pub returns-clause-sizes : goal.returns-clause-sizes
returns-clause-sizes c = sizes-core_after

pub returns-clause-over : goal.returns-clause-over
returns-clause-over c = IsOverReads-run

pub returns-clause-at_opening : goal.returns-clause-at_opening
returns-clause-at_opening c = at_opening-core_after
