use Rattle.std.proofs.Common.{[], ◌∷◌, ◌++◌, codes, ◌∙◌}
use Rattle.std.proofs.lemmas.Result.{IfOk-weaker}
use Rattle.job_commands.specs.Commands.{case_rule, report_rules, sweep_rules}
use Rattle.job_commands.proofs.CommandLemmas.{adds_leaf, leaf_with}
use Rattle.view_commands.specs.Units.{scale_rules, unit_rules}
use Rattle.view_commands.specs.Commands.{prediction_rules, start_rules}
use Rattle.view_commands.proofs.LineFacts.{after_bin_name, after_required, bare, json_line_is}
use Rattle.view_commands.proofs.command.json_commands.Goals as goal

pub returns : goal.returns
returns c =
    let named = after_bin_name c.leaf_command.result c.in_ok-bin_name.field-0 (bare (codes "json")) _
    c.leaf_command.ensures.app
    c.in_ok-bin_name.ensures.0 in
    let top = after_required c.in_ok-bin_name.field-0 c.subcommand_required.result _ named
    c.subcommand_required.ensures in
    let report = adds_leaf _ _ c.in_ok-subcommand.field-0 _ (codes "report") (report_rules ++ unit_rules) top
    (leaf_with c.leaf_command-2.result c.in_ok-with_either.field-0 _ _ c.leaf_command-2.ensures
    c.in_ok-with_either.ensures) c.in_ok-subcommand.ensures in
    let sweep = adds_leaf _ _ c.in_ok-subcommand-2.field-0 _ (codes "sweep")
    ((sweep_rules ++ case_rule ∷ []) ++ scale_rules) report
    (leaf_with c.leaf_command-3.result c.in_ok-with_scaled_cases.field-0 _ _ c.leaf_command-3.ensures
    c.in_ok-with_scaled_cases.ensures) c.in_ok-subcommand-2.ensures in
    let predict = adds_leaf _ _ c.in_ok-subcommand-3.field-0 _ (codes "predict") prediction_rules sweep
    (leaf_with c.leaf_command-4.result c.in_ok-with_prediction.field-0 _ _ c.leaf_command-4.ensures
    c.in_ok-with_prediction.ensures) c.in_ok-subcommand-3.ensures in
    let when = leaf_with c.leaf_command-5.result c.in_ok-with_starts.field-0 _ _ c.leaf_command-5.ensures
    c.in_ok-with_starts.ensures in
    IfOk-weaker c.subcommand-4.result _ _ (λ line added. adds_leaf _ _ line _ (codes "when") start_rules predict when
    added ∙ json_line_is) c.subcommand-4.ensures
