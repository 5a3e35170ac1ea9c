use Rattle.look_planner.proofs.Kept.{a_look_finds_lem}
use Rattle.look_planner.proofs.laws.a_look_finds_what_was_written.Goals as goal

pub returns : goal.returns
returns c = a_look_finds_lem
