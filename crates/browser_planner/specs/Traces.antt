-- What a caller sees of a trace.
use Rattle.std.specs.Prelude.{◌≡◌, length}
use Rattle.migration_model.specs.Trace.{GuestTrace, last_tick}
use Rattle.browser_planner.specs.declared.traces.LentSizes.{LentSizes}

-- the sizes of a trace, and when its last write was
pub record AreSizesOf (trace : GuestTrace) (sizes : LentSizes) : Type 0 where
  pub shift : sizes.shift ≡ trace.shift
  pub pages : sizes.pages ≡ trace.pages
  pub writes : sizes.writes ≡ length trace.writes
  pub last : sizes.last ≡ last_tick trace.writes
