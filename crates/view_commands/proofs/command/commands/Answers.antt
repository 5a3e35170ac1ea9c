use Rattle.std.proofs.Common.{[], ◌∷◌, ◌++◌, ap, codes, ◌∙◌}
use Rattle.clap.specs.Simple.{app_of_fields}
use Rattle.std.proofs.lemmas.Result.{IfOk-weaker}
use Rattle.job_commands.specs.Commands.{flag_rule, report_rules}
use Rattle.job_commands.proofs.CommandLemmas.{adds_leaf, leaf_with}
use Rattle.view_commands.specs.Units.{unit_rules}
use Rattle.view_commands.specs.Commands.{budget_rules, prediction_rules, start_rules, style_rules}
use Rattle.view_commands.proofs.LineFacts.{after_required, after_version, bare, view_line_is}
use Rattle.view_commands.proofs.command.commands.Goals as goal

pub returns : goal.returns
returns c =
    let versioned = after_version c.leaf_command.result c.version.result (bare (codes "precopy-view")) _
    c.leaf_command.ensures.app c.version.ensures in
    let helped = ap app_of_fields c.after_help.ensures ∙ versioned in
    let top = after_required c.after_help.result c.subcommand_required.result _ helped c.subcommand_required.ensures in
    let predict = adds_leaf _ _ c.in_ok-subcommand.field-0 _ (codes "predict") prediction_rules top
    (leaf_with c.leaf_command-2.result c.in_ok-with_prediction.field-0 _ _ c.leaf_command-2.ensures
    c.in_ok-with_prediction.ensures) c.in_ok-subcommand.ensures in
    let when = adds_leaf _ _ c.in_ok-subcommand-2.field-0 _ (codes "when")
    (start_rules ++ flag_rule (codes "chart") ∷ []) predict c.in_ok-when_command.ensures
    c.in_ok-subcommand-2.ensures in
    let json = adds_leaf _ _ c.in_ok-subcommand-3.field-0 _ (codes "json") [] when c.json_command.ensures
    c.in_ok-subcommand-3.ensures in
    let advise = adds_leaf _ _ c.in_ok-subcommand-4.field-0 _ (codes "advise") budget_rules json
    (leaf_with c.leaf_command-3.result c.in_ok-with_budget.field-0 _ _ c.leaf_command-3.ensures
    c.in_ok-with_budget.ensures) c.in_ok-subcommand-4.ensures in
    let show = adds_leaf _ _ c.in_ok-subcommand-5.field-0 _ (codes "show") style_rules advise
    (leaf_with c.leaf_command-4.result c.in_ok-with_style.field-0 _ _ c.leaf_command-4.ensures
    c.in_ok-with_style.ensures)
    c.in_ok-subcommand-5.ensures in
    let chart = leaf_with c.leaf_command-5.result c.in_ok-with_either.field-0 _ _ c.leaf_command-5.ensures
    c.in_ok-with_either.ensures in
    IfOk-weaker c.subcommand-6.result _ _ (λ line added. adds_leaf _ _ line _ (codes "chart")
    (report_rules ++ unit_rules) show chart added ∙ view_line_is) c.subcommand-6.ensures
