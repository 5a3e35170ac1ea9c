use Rattle.std.proofs.Common.{◌≡◌, ℕ, ◌<◌, length, ap, ◌∙◌, arith}
use Rattle.predictions.specs.Starts.Costs.{CostAtStart}
use Rattle.predictions.proofs.Extremes.{range_more, range_one}
use Rattle.predictions.proofs.starts.ranges.extremes.Goals as goal
use Rattle.predictions.specs.Predictions.{MigrationCost}

abbrev time_at : CostAtStart → ℕ
time_at at = at.cost.time

abbrev bytes_at : CostAtStart → ℕ
bytes_at at = at.cost.bytes

abbrev downtime_at : CostAtStart → ℕ
downtime_at at = at.cost.downtime

pub loop-number-init : goal.loop-number-init
loop-number-init c =
    let known = c.args.known.now in
    let first = c.index-known-0.result in
    let least = c.of-least.result in
    let some : 0 < length known = omega (arith, c.requires) in
    let cost : c.first.inside.cost ≡ first.cost = ap (λ (s : CostAtStart). s.cost) c.first.view_is in
    let time : least.time ≡ first.cost.time = c.of-least.ensures.time ∙ ap (λ (m : MigrationCost). m.time) cost in
    let bytes : least.bytes ≡ first.cost.bytes =
    c.of-least.ensures.bytes ∙ ap (λ (m : MigrationCost). m.bytes) cost in
    let downtime : least.downtime ≡ first.cost.downtime =
    c.of-least.ensures.downtime ∙ ap (λ (m : MigrationCost). m.downtime) cost in
    record {
      time = range_one time_at known first least.time least.time some c.index-known-0.is time time;
      bytes = range_one bytes_at known first least.bytes least.bytes some c.index-known-0.is bytes bytes;
      downtime =
          range_one downtime_at known first least.downtime least.downtime some c.index-known-0.is downtime downtime;
    }

pub loop-number-preserved : goal.loop-number-preserved
loop-number-preserved c =
    let known = c.args.known.now in
    let i = c.loop-number.number in
    let at = c.index-known-number.result in
    let numbers = c.of-numbers.result in
    let least = c.loop-number.least in
    let greatest = c.loop-number.greatest in
    let lesser = c.lesser-least.result in
    let greater = c.greater-greatest.result in
    let inside : i < length known = omega arith in
    let cost : c.at.inside.cost ≡ at.cost = ap (λ (s : CostAtStart). s.cost) c.at.view_is in
    let time : numbers.time ≡ at.cost.time = c.of-numbers.ensures.time ∙ ap (λ (m : MigrationCost). m.time) cost in
    let bytes : numbers.bytes ≡ at.cost.bytes =
    c.of-numbers.ensures.bytes ∙ ap (λ (m : MigrationCost). m.bytes) cost in
    let downtime : numbers.downtime ≡ at.cost.downtime =
    c.of-numbers.ensures.downtime ∙ ap (λ (m : MigrationCost). m.downtime) cost in
    record {
      time = range_more time_at known i at numbers.time least.time greatest.time lesser.time greater.time inside
          c.index-known-number.is time c.lesser-least.ensures.time c.greater-greatest.ensures.time
          c.loop-number.invariant.time;
      bytes = range_more bytes_at known i at numbers.bytes least.bytes greatest.bytes lesser.bytes greater.bytes inside
          c.index-known-number.is bytes c.lesser-least.ensures.bytes c.greater-greatest.ensures.bytes
          c.loop-number.invariant.bytes;
      downtime = range_more downtime_at known i at numbers.downtime least.downtime greatest.downtime lesser.downtime
          greater.downtime inside c.index-known-number.is downtime c.lesser-least.ensures.downtime
          c.greater-greatest.ensures.downtime c.loop-number.invariant.downtime;
    }
