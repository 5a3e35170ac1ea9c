-- Who takes part in a round, before and after it.
use Rattle.std.specs.Prelude.{◌≡◌, ℕ, Bool, length}
use Rattle.std.specs.List.{All}
use Rattle.migration_model.specs.Trace.{GuestTrace}
use Rattle.dirty_words.specs.Closing.{first_guests, first_copiers}
use Rattle.dirty_words.specs.Seats.{TableView}
use Rattle.live_tasks.specs.CopierStates.{IsCopierState}
use Rattle.live_tasks.specs.declared.replayer.Ticks.{Ticks}
use Rattle.live_engine.specs.declared.threads.Crew.{Crew}
use Rattle.live_engine.specs.declared.threads.EndedCrew.{EndedCrew}
use Rattle.live_engine.specs.Lists.{rows_of}
use Rattle.live_engine.specs.Seated.{AreCopied, AreReplayed}

-- the seats are those of the table, with nothing done yet, and each copier has a state
pub record IsCrewOf (trace : GuestTrace) (table : TableView) (streams : ℕ) (crew : Crew) : Type 0 where
  pub guests : crew.guests.items ≡ first_guests table
  pub copiers : crew.copiers.items ≡ first_copiers table
  pub count : length crew.states.items ≡ length crew.copiers.items
  pub states : All (IsCopierState trace streams) crew.states.items

-- all of the crew did their parts of the round
pub record CrewHasEnded (trace : GuestTrace) (skip : Bool) (table : TableView) (streams : ℕ) (ticks : Ticks)
    (crew : Crew) (ended : EndedCrew) : Type 0 where
  pub guests : AreReplayed trace table ticks.from ticks.to ended.guests.items
  pub copiers : AreCopied trace skip table streams (rows_of crew.states.items) ended.copiers.items
