use Rattle.std.proofs.lemmas.Result.{IfOk-weaker}
use Rattle.job_commands.proofs.CommandLemmas.{adds_arg, adds_both}
use Rattle.view_commands.proofs.options.with_style.Goals as goal

pub returns : goal.returns
returns c =
    let two = adds_both c.args.command c.in_ok-command.command c.in_ok-command-2.command _ _ c.in_ok-command.ensures
    (adds_arg c.in_ok-command.command c.in_ok-command-2.command c.number.result _ c.in_ok-command-2.ensures
    c.number.ensures.local c.number.ensures.rule) in
    let three = adds_both c.args.command c.in_ok-command-2.command c.in_ok-command-3.command _ _ two
    (adds_arg c.in_ok-command-2.command c.in_ok-command-3.command c.color_arg.result _ c.in_ok-command-3.ensures
    c.color_arg.ensures.local c.color_arg.ensures.rule) in
    IfOk-weaker c.with_units.result _ _ (λ new added. adds_both c.args.command c.in_ok-command-3.command new _ _ three
    added) c.with_units.ensures
