use Rattle.std.proofs.Common.{◌≡◌, ◌+◌, ◌*◌, ◌/◌, ◌%◌, ◌<◌, ◌≤◌, ap, arith}
use Rattle.round_planner.proofs.Paces.{same_tick, next_tick}
use Rattle.round_planner.proofs.pace.Pace.send.Goals as goal

pub returns-then-part-self-clause-at : goal.returns-then-part-self-clause-at
returns-then-part-self-clause-at c =
    let rate = c.args.self.now.rate in
    let n = 1_000 * c.args.at.sent in
    let at = c.requires.at in
    let pace = c.requires.pace in
    let low : n % rate + 1_000 % rate < rate = omega (arith, at.part_is, pace.parts_are, c.if-part-self.true) in
    let same = same_tick n 1_000 rate low in
    let next : n + 1_000 ≡ 1_000 * (c.args.at.sent + 1) = omega arith in
    record {
      tick_is = omega (arith, at.tick_is, pace.ticks_are, same.0, ap (λ m. m / rate) next);
      part_is = omega (arith, at.part_is, pace.parts_are, same.1, ap (λ m. m % rate) next);
    }

pub returns-clause-at : goal.returns-clause-at
returns-clause-at c =
    let rate = c.args.self.now.rate in
    let n = 1_000 * c.args.at.sent in
    let at = c.requires.at in
    let pace = c.requires.pace in
    let high : rate ≤ n % rate + 1_000 % rate = omega (arith, at.part_is, pace.parts_are, c.if-part-self.false) in
    let same = next_tick n 1_000 rate pace.some high in
    let next : n + 1_000 ≡ 1_000 * (c.args.at.sent + 1) = omega arith in
    record {
      tick_is = omega (arith, at.tick_is, pace.ticks_are, same.0, ap (λ m. m / rate) next);
      part_is = omega (arith, at.part_is, pace.parts_are, same.1, ap (λ m. m % rate) next);
    }
