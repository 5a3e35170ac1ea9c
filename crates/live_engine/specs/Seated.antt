-- What the threads of a round give back.
use Rattle.std.specs.Prelude.{◌≡◌, ℕ, ◌<◌, slice_index_or, Bool, List, [], length}
use Rattle.migration_model.specs.Trace.{GuestTrace}
use Rattle.page_versions.specs.declared.trace_pages.TracePages.{TracePages}
use Rattle.page_versions.specs.Copies.{ArePagesOf}
use Rattle.dirty_words.specs.Seats.{TableView, GuestView, guest_table}
use Rattle.stream_lanes.specs.Ends.{OutView}
use Rattle.live_tasks.specs.Replays.{HasReplayed}
use Rattle.live_tasks.specs.Copies.{HasCopied}
use Rattle.live_tasks.specs.declared.copier.Copier.{Copier}

-- the relation of each element and its index
abbrev pub EachAt : {X : Type 0} → (X → ℕ → Type 0) → List X → Type 0
EachAt {X} Holds xs = (i : ℕ) → i < length xs → (x : X) × (x ≡ slice_index_or xs i x) × Holds x i

-- what the threads of a round share: what the trace's pages are made from, and a table of them
pub record IsRoundOf (trace : GuestTrace) (pages : TracePages) (table : TableView) : Type 0 where
  pub are_pages : ArePagesOf pages.index pages.packed trace
  pub has_pages : length table.start.places ≡ trace.pages

-- the part of a round that a replayer owes: the writes in these ticks to the pages of the guest with this number
pub record ReplayTask : Type 0 where
  pub trace : GuestTrace
  pub table : TableView
  pub from : ℕ
  pub to : ℕ
  pub number : ℕ

abbrev pub replay_task : GuestTrace → TableView → ℕ → ℕ → ℕ → ReplayTask
replay_task trace table from to number = record { trace = trace; table = table; from = from; to = to; number = number }

-- the part that a copier owes: the words of the copier with this number, on its initial lanes
pub record CopyTask : Type 0 where
  pub trace : GuestTrace
  pub skip : Bool
  pub table : TableView
  pub streams : ℕ
  pub number : ℕ
  pub outs : List OutView

abbrev pub copy_task : GuestTrace → Bool → TableView → ℕ → ℕ → List OutView → CopyTask
copy_task trace skip table streams number outs =
    record { trace = trace; skip = skip; table = table; streams = streams; number = number; outs = outs }

-- the guest with this number is the table's, and did its part of the round
pub record IsReplayed (trace : GuestTrace) (table : TableView) (from to number : ℕ) (guest : GuestView) : Type 0 where
  pub table_is : guest_table guest ≡ table
  pub number_is : guest.facts.number ≡ number
  pub replayed : HasReplayed trace from to guest.facts

-- all guests of the table did their parts
pub record AreReplayed (trace : GuestTrace) (table : TableView) (from to : ℕ) (guests : List GuestView) : Type 0 where
  pub count : length guests ≡ table.start.guests
  pub each : EachAt (λ guest number. IsReplayed trace table from to number guest) guests

-- the copier with this number did its part, and initially had these lanes
abbrev pub IsCopied : GuestTrace → Bool → TableView → ℕ → List (List OutView) → Copier → ℕ → Type 0
IsCopied trace skip table streams rows copier number =
    HasCopied trace skip table number streams (slice_index_or rows number []) copier.seat copier.state

-- all copiers of the table did their parts
pub record AreCopied (trace : GuestTrace) (skip : Bool) (table : TableView) (streams : ℕ) (rows : List (List OutView))
    (copiers : List Copier) : Type 0 where
  pub count : length copiers ≡ table.start.copiers
  pub each : EachAt (IsCopied trace skip table streams rows) copiers
