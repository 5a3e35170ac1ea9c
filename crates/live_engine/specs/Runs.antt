-- A live run between two rounds, and when it has ended.
use Rattle.std.specs.Prelude.{◌≡◌, ℕ, ◌*◌, ◌^◌, ◌<◌, ◌≤◌, ◌⊎◌, List, Option, IfSome, length, map, slice_index_or}
use Rattle.std.specs.List.{All}
use Rattle.migration_model.specs.Trace.{GuestTrace, IsTrace}
use Rattle.migration_model.specs.Memory.{GuestMemory, image_before, image_of}
use Rattle.migration_model.specs.Rates.{MigrationSettings}
use Rattle.migration_model.specs.Rounds.{MigrationPlan, IsPlan}
use Rattle.migration_model.specs.Touches.{touches_of}
use Rattle.migration_model.specs.Live.{LiveRound, LiveRounds}
use Rattle.migration_model.specs.Final.{shape_of_trace}
use Rattle.migration_model.specs.Images.{AreNotBeyond, HaveCurrent}
use Rattle.migration_model.specs.Parts.{GuestPart}
use Rattle.migration_model.specs.Resumed.{AtVersions}
use Rattle.migration_model.specs.Versions.{version_before}
use Rattle.page_versions.specs.Index.{GuestIndex, IsIndexOf}
use Rattle.dirty_core.specs.Start.{IsStart, start_with}
use Rattle.dirty_words.specs.Closing.{FitsPages}
use Rattle.dirty_words.specs.Seats.{ClosedView}
use Rattle.live_tasks.specs.CopierStates.{CopierStateView, IsCopierState}
use Rattle.stream_receivers.specs.Receivers.{ReceiverView}
use Rattle.live_engine.specs.declared.migration.EndedRun.{EndedRun}
use Rattle.live_engine.specs.declared.opening.Team.{Team}
use Rattle.live_engine.specs.declared.rounds.Progress.{Progress}
use Rattle.live_engine.specs.Joining.{AreJoined, HaveCapacity, HaveSentNothing, IsAsInBase, IsMarked, lanes_of}
use Rattle.live_engine.specs.Lists.{rows_of}
use Rattle.live_engine.specs.Receiving.{AreCrossed, identity_of, lanes_in}

-- from 1 to 16
abbrev pub IsParallel : ℕ → Type 0
IsParallel count = (1 ≤ count) × (count ≤ 16)

-- a team that a table, a deal and a final copy take
pub record IsTeam (team : Team) : Type 0 where
  pub replayers : IsParallel team.replayers
  pub copiers : IsParallel team.copiers
  pub streams : IsParallel team.streams

-- the team that the settings ask for
pub record IsTeamOf (s : MigrationSettings) (team : Team) : Type 0 where
  pub is_team : IsTeam team
  pub replayers_are : team.replayers ≡ s.replayers
  pub copiers_are : team.copiers ≡ s.workers
  pub streams_are : team.streams ≡ s.streams
  pub lane_is : team.lane ≡ s.lane

-- the plan of a migration of this trace
abbrev pub IsPlanOf : GuestTrace → MigrationSettings → MigrationPlan → Type 0
IsPlanOf trace s plan = IsPlan trace.pages (touches_of trace) s plan

-- the next table may open, and there is a state for each copier
pub record IsUnderWay (trace : GuestTrace) (team : Team) (closed : ClosedView)
    (states : List CopierStateView) : Type 0 where
  pub next : IsStart (start_with closed.versions closed.dirty team.replayers team.copiers)
  pub size : length closed.versions ≡ trace.pages
  pub states_are : length states ≡ team.copiers
  pub each : All (IsCopierState trace team.streams) states

-- there is a state for each copier, and nothing was sent from it
pub record AreNewStates (trace : GuestTrace) (team : Team) (states : List CopierStateView) : Type 0 where
  pub count : length states ≡ team.copiers
  pub each : All (IsCopierState trace team.streams) states
  pub new : HaveSentNothing (rows_of states)

-- a lane from each copier's state to each stream's receiver; nothing was sent, and no part has any page
pub record AreOpened (trace : GuestTrace) (team : Team) (states : List CopierStateView)
    (receivers : List ReceiverView) : Type 0 where
  pub states_are : AreNewStates trace team states
  pub crossed : AreCrossed team.copiers team.streams (lanes_of (rows_of states)) (map lanes_in receivers)
  pub capacity : HaveCapacity team.lane (lanes_of (rows_of states))
  pub is_trace : IsTrace trace
  pub shapes : All (λ receiver. receiver.part.shape ≡ shape_of_trace trace) receivers

-- all planned rounds are done, by copiers that had these states before
pub record AreDone (trace : GuestTrace) (s : MigrationSettings) (plan : MigrationPlan) (team : Team)
    (before : List CopierStateView) (progress : Progress) : Type 0 where
  pub under_way : IsUnderWay trace team progress.closed progress.states.items
  pub lanes : lanes_of (rows_of progress.states.items) ≡ lanes_of (rows_of before)
  pub joined : AreJoined trace s.base team.copiers plan.stop plan.rounds progress.rounds.items progress.closed
      (rows_of progress.states.items)
  pub law : (lane : ℕ) → HaveCapacity lane (lanes_of (rows_of before))
      → LiveRounds trace s.base s.skip team.copiers lane plan.rounds progress.rounds.items

-- the rounds are done, and each receiver has the lanes and the guest that it had
pub record HasEnded (trace : GuestTrace) (s : MigrationSettings) (plan : MigrationPlan) (team : Team)
    (before : List CopierStateView) (opened : List ReceiverView) (ended : EndedRun) : Type 0 where
  pub done : AreDone trace s plan team before ended.progress
  pub same : map identity_of ended.receivers.items ≡ map identity_of opened

-- All that was sent has reached the parts. A page that isn't marked is no older there than at the stop, or has the
-- version that it had in the base.
pub record AllSentArrived (trace : GuestTrace) (base : Option ℕ)
    (streams : ℕ) (closed : ClosedView) (parts : List GuestPart) : Type 0 where
  pub fits : FitsPages closed trace.pages (length trace.writes)
  pub base_low : IfSome base (λ from. (page : ℕ) → page < trace.pages
      → version_before trace page from ≤ slice_index_or closed.versions page 0)
  pub count : length parts ≡ streams
  pub not_beyond : AreNotBeyond trace (shape_of_trace trace) closed.versions parts
  pub current : (page : ℕ) → page < trace.pages → ¬ IsMarked closed.dirty page
      → HaveCurrent closed.versions parts page ⊎ IsAsInBase trace base closed.versions page

-- All that was sent, and what the destination began with, is in the parts, and no unmarked page is older there than at
-- the stop.
pub record AllArrived (trace : GuestTrace) (streams : ℕ) (closed : ClosedView) (parts : List GuestPart) : Type 0 where
  pub fits : FitsPages closed trace.pages (length trace.writes)
  pub count : length parts ≡ streams
  pub not_beyond : AreNotBeyond trace (shape_of_trace trace) closed.versions parts
  pub current : (page : ℕ) → page < trace.pages → ¬ IsMarked closed.dirty page → HaveCurrent closed.versions parts page

-- memory of a trace's guest with each page at its version, and an index of the trace
pub record IsStoppedAt (trace : GuestTrace) (versions : List ℕ)
    (index : GuestIndex) (memory : GuestMemory) : Type 0 where
  pub is_trace : IsTrace trace
  pub is_index : IsIndexOf index trace
  pub shift : memory.shift ≡ trace.shift
  pub pages : memory.pages ≡ trace.pages
  pub len : length memory.bytes ≡ memory.pages * 2 ^ memory.shift
  pub count : length versions ≡ trace.pages
  pub within : (page : ℕ) → page < trace.pages → slice_index_or versions page 0 ≤ length trace.writes
  pub at : AtVersions trace versions memory

-- A guest that has stopped by the plan: it has the memory at the plan's stop tick, each page at its version, and the
-- rounds keep the law.
pub record IsStopped (trace : GuestTrace) (s : MigrationSettings) (stop : ℕ) (at_stop : GuestMemory) (versions : List ℕ)
    (index : GuestIndex) (rounds : List LiveRound) : Type 0 where
  pub plan : MigrationPlan
  pub is_plan : IsPlanOf trace s plan
  pub stop_is : stop ≡ plan.stop
  pub at_stop_is : at_stop ≡ image_before trace plan.stop
  pub stopped : IsStoppedAt trace versions index at_stop
  pub law : LiveRounds trace s.base s.skip s.workers s.lane plan.rounds rounds

-- A live run that succeeds: by the plan, it has the memory at the plan's stop tick and after all writes, and its rounds
-- keep the law.
pub record IsLiveRun (trace : GuestTrace) (s : MigrationSettings) (stop : ℕ) (at_stop at_end : GuestMemory)
    (rounds : List LiveRound) : Type 0 where
  pub plan : MigrationPlan
  pub is_plan : IsPlanOf trace s plan
  pub stop_is : stop ≡ plan.stop
  pub at_stop_is : at_stop ≡ image_before trace plan.stop
  pub at_end_is : at_end ≡ image_of trace
  pub law : LiveRounds trace s.base s.skip s.workers s.lane plan.rounds rounds
