use Rattle.std.proofs.lemmas.Result.{IfOk-weaker}
use Rattle.job_commands.proofs.CommandLemmas.{adds_arg, adds_both}
use Rattle.view_commands.proofs.options.with_budget.Goals as goal

pub returns : goal.returns
returns c =
    let two = adds_both c.args.command c.in_ok-command.command c.in_ok-command-2.command _ _ c.in_ok-command.ensures
    (adds_arg c.in_ok-command.command c.in_ok-command-2.command c.number.result _ c.in_ok-command-2.ensures
    c.number.ensures.local c.number.ensures.rule) in
    let three = adds_both c.args.command c.in_ok-command-2.command c.in_ok-command-3.command _ _ two
    (adds_arg c.in_ok-command-2.command c.in_ok-command-3.command c.number-2.result _ c.in_ok-command-3.ensures
    c.number-2.ensures.local c.number-2.ensures.rule) in
    let four = adds_both c.args.command c.in_ok-command-3.command c.in_ok-command-4.command _ _ three
    (adds_arg c.in_ok-command-3.command c.in_ok-command-4.command c.number-3.result _ c.in_ok-command-4.ensures
    c.number-3.ensures.local c.number-3.ensures.rule) in
    IfOk-weaker c.with_units.result _ _ (λ new added. adds_both c.args.command c.in_ok-command-4.command new _ _ four
    added) c.with_units.ensures
