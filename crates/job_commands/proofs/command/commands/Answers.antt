use Rattle.std.proofs.Common.{[], ◌∷◌, ◌++◌, codes, ◌∙◌}
use Rattle.std.proofs.lemmas.Result.{IfOk-weaker}
use Rattle.job_commands.specs.Commands.{case_rule, live_rules, report_rules, sweep_rules}
use Rattle.job_commands.proofs.CommandLemmas.{adds_leaf, leaf_with, precopy_line_is, required_line}
use Rattle.job_commands.proofs.command.commands.Goals as goal

pub returns : goal.returns
returns c =
    let top = required_line c.leaf_command.result c.subcommand_required.result c.leaf_command.ensures
    c.subcommand_required.ensures in
    let image = adds_leaf _ c.leaf_command-2.result c.in_ok-subcommand.field-0 _ _ _ top
    c.leaf_command-2.ensures
    c.in_ok-subcommand.ensures in
    let report = adds_leaf _ _ c.in_ok-subcommand-2.field-0 _ (codes "report") report_rules image
    (leaf_with c.leaf_command-3.result c.in_ok-with_report.field-0 _ _ c.leaf_command-3.ensures
    c.in_ok-with_report.ensures) c.in_ok-subcommand-2.ensures in
    let live = adds_leaf _ _ c.in_ok-subcommand-3.field-0 _ (codes "live") live_rules report
    (leaf_with c.leaf_command-4.result c.in_ok-with_live.field-0 _ _ c.leaf_command-4.ensures
    c.in_ok-with_live.ensures)
    c.in_ok-subcommand-3.ensures in
    let sweep = leaf_with c.leaf_command-5.result c.in_ok-with_cases.field-0 _ _ c.leaf_command-5.ensures
    c.in_ok-with_cases.ensures in
    IfOk-weaker c.subcommand-4.result _ _ (λ line added. adds_leaf _ _ line _ (codes "sweep")
    (sweep_rules ++ case_rule ∷ []) live sweep added ∙ precopy_line_is) c.subcommand-4.ensures
