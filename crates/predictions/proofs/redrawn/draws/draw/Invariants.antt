use Rattle.std.proofs.Common.{◌≡◌, ◌≤◌, ◌+◌, ℕ, take}
use Rattle.predictions.specs.Redrawn.Draws.{state_after}
use Rattle.predictions.proofs.Drawing.{drawn_in}
use Rattle.predictions.proofs.redrawn.draws.draw.Given as goal

abbrev pub invariant-loop-step : goal.invariant-loop-step
invariant-loop-step l = record {
  state : (steps : ℕ) → l.before ≡ state_after steps → l.state ≡ state_after (steps + l._step);
  drawn : (steps : ℕ) → l.before ≡ state_after steps → take l.count l.room
      ≡ drawn_in l.sampled l.pages steps l._step;
  few : l.count ≤ l._step;
}
