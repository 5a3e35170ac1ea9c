use Rattle.std.proofs.Common.{◌∙◌, arith}
use Rattle.c_answers.specs.Sweeps.{line_sums}
use Rattle.c_answers.proofs.Fronts.{front_all, front_more}
use Rattle.c_answers.proofs.sweeps.put_lines.Goals as goal

pub loop-number-preserved : goal.loop-number-preserved
loop-number-preserved c =
    front_more line_sums c.args.lines.now c.loop-number.number c.index-lines-number.result c.sums_of_line.result
    c.args.room.now c.loop-number.room
    (omega arith) c.requires c.index-lines-number.is c.sums_of_line.ensures c.loop-number.invariant

pub returns : goal.returns
returns c = c.loop-number.invariant ∙ front_all line_sums c.args.lines.now c.loop-number.number c.args.room.now
    (omega arith)
