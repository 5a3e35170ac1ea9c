use Rattle.std.proofs.Common.{◌≡◌, take}
use Rattle.migration_model.specs.Trace.{last_by}
use Rattle.browser_planner.proofs.foretelling.last_dirtied.Given as goal

abbrev pub invariant-loop-row : goal.invariant-loop-row
invariant-loop-row l = l.last ≡ last_by (λ row. row.dirtied) (take l.row-index l.front)
