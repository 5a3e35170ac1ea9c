use Rattle.std.proofs.Common.{◌∙◌, arith}
use Rattle.round_planner.specs.Rows.{row_of}
use Rattle.c_answers.proofs.Fronts.{front_all, front_more}
use Rattle.c_answers.proofs.plans.put_rounds.Goals as goal

pub loop-number-preserved : goal.loop-number-preserved
loop-number-preserved c =
    front_more row_of c.args.rounds.now c.loop-number.number c.index-rounds-number.result c.row.result c.args.room.now
    c.loop-number.room
    (omega arith) c.requires c.index-rounds-number.is c.row.ensures c.loop-number.invariant

pub returns : goal.returns
returns c = c.loop-number.invariant ∙ front_all row_of c.args.rounds.now c.loop-number.number c.args.room.now
    (omega arith)
