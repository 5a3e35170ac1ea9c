use Rattle.std.proofs.Common.{ap, ◌∙◌}
use Rattle.clap.specs.Simple.{app_of_fields}
use Rattle.move_schedules.proofs.WordLemmas.{line_is}
use Rattle.move_schedules.proofs.command.command_line.Goals as goal

pub returns : goal.returns
returns c =
    ap app_of_fields c.after_help.ensures ∙ line_is c.leaf_command.result c.version.result _ c.leaf_command.ensures.app
    c.version.ensures
