use Rattle.std.proofs.Common.{rules, ◌≡◌, length, replicate}
use Rattle.round_planner.proofs.Scans.{begun_again}
use Rattle.predictions.proofs.redrawn.plans.turn.Goals as goal

pub returns-clause-marks : goal.returns-clause-marks
returns-clause-marks c pages from tick next touches scan =
    let filled : c.fill.new.self ≡ replicate (length c.args.marks.now) 0 = search rules in
    begun_again pages touches from tick next c.args.marks.now c.fill.new.self filled scan
