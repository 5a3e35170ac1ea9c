use Rattle.std.proofs.Common.{◌-◌, ◌<◌, ◌≤◌, ℕ, get_or, length}
use Rattle.migration_model.specs.Touches.{GuestTouch, touches_of}
use Rattle.open_traces.proofs.open_trace.OpenTraceTimeline.before.Given as goal

abbrev pub invariant-loop-low : goal.invariant-loop-low
invariant-loop-low l = record {
  order : l.low ≤ l.high;
  bound : l.high ≤ length (touches_of l.self);
  earlier : (k : ℕ) (d : GuestTouch) → k < l.low → (get_or (touches_of l.self) k d).tick < l.tick;
  later : (k : ℕ) (d : GuestTouch) → l.high ≤ k → k < length (touches_of l.self)
      → l.tick ≤ (get_or (touches_of l.self) k d).tick;
}

abbrev pub decreases-loop-low : goal.decreases-loop-low
decreases-loop-low l = l.high - l.low
