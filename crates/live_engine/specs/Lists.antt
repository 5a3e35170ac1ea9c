-- The lists of a round.
use Rattle.std.specs.Prelude.{List, map}
use Rattle.std.specs.List.{flat_map}
use Rattle.migration_model.specs.Live.{LiveRound, live_round_with}
use Rattle.stream_lanes.specs.Ends.{OutView}
use Rattle.live_tasks.specs.CopierStates.{CopierStateView}

-- what the copiers sent, skipped and deferred, one after the other
abbrev pub lists_of : List CopierStateView → LiveRound
lists_of states =
    live_round_with (flat_map (λ d. d.log.sent) states) (flat_map (λ d. d.log.skipped) states)
    (flat_map (λ d. d.log.deferred) states)

-- the lanes of each copier
abbrev pub rows_of : List CopierStateView → List (List OutView)
rows_of states = map (λ d. d.outs) states
