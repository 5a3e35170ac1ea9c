-- What a copier keeps from round to round.
use Rattle.std.specs.Prelude.{◌≡◌, ℕ, List, length}
use Rattle.migration_model.specs.Trace.{GuestTrace}
use Rattle.page_cache.specs.Cache.{AreKept, GuestCache, GuestPages}
use Rattle.stream_split.specs.Deals.{Turn}
use Rattle.stream_lanes.specs.Ends.{OutView}
use Rattle.live_tasks.specs.RoundLogs.{RoundLogView}

-- the most pages that a copier keeps, over the whole run
abbrev pub cache_capacity : ℕ
cache_capacity = 64

-- whose turn it is, the kept pages, what was listed, and the ends of the copier's lanes, one for each stream
pub record CopierStateView : Type 0 where
  pub turn : Turn
  pub pages : GuestPages
  pub log : RoundLogView
  pub outs : List OutView

abbrev pub state_with : Turn → GuestPages → RoundLogView → List OutView → CopierStateView
state_with turn pages log outs = record { turn = turn; pages = pages; log = log; outs = outs }

-- a state for a migration of this trace over `streams` streams
pub record IsCopierState (trace : GuestTrace) (streams : ℕ) (state : CopierStateView) : Type 0 where
  pub kept : AreKept trace state.pages.entries
  pub capacity_is : state.pages.capacity ≡ cache_capacity
  pub turns : state.turn.streams ≡ streams
  pub lanes_are : length state.outs ≡ streams

-- the state of a copier during a round, with the trace at hand
pub record RoundStateView : Type 0 where
  pub turn : Turn
  pub cache : GuestCache
  pub log : RoundLogView
  pub outs : List OutView

abbrev pub round_state_with : Turn → GuestCache → RoundLogView → List OutView → RoundStateView
round_state_with turn cache log outs = record { turn = turn; cache = cache; log = log; outs = outs }
