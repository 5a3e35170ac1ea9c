use Rattle.working_sets.proofs.OtherWords.{row_of_each_write}
use Rattle.working_sets.proofs.laws.each_write_has_its_row.Goals as goal

pub returns : goal.returns
returns c pages w touches = row_of_each_write pages touches w
