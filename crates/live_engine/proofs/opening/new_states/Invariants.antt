use Rattle.std.proofs.Common.{◌≡◌, ℕ, ◌++◌, length, map}
use Rattle.std.specs.List.{All}
use Rattle.std.specs.Vec.Iter.{into_iter_items}
use Rattle.migration_model.specs.Trace.{GuestTrace}
use Rattle.live_tasks.specs.CopierStates.{IsCopierState}
use Rattle.live_engine.specs.Lists.{rows_of}
use Rattle.live_engine.proofs.opening.new_states.Given as goal

abbrev pub invariant-loop-row : goal.invariant-loop-row
invariant-loop-row l = record {
  can_next : goal.iterator-loop-row.can_next l.row-iterator;
  is_finite : goal.iterator-loop-row.is_finite l.row-iterator;
  all : l.yielded ++ into_iter_items l.row-iterator ≡ l.fn.rows.items;
  rows : rows_of l.states.items ≡ map (λ row. row.items) l.yielded;
  each : (trace : GuestTrace) (streams : ℕ) → All (λ row. length row.items ≡ streams) l.fn.rows.items
      → All (IsCopierState trace streams) l.states.items;
}
