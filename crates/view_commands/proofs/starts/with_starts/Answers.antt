use Rattle.std.proofs.lemmas.Result.{IfOk-weaker}
use Rattle.job_commands.proofs.CommandLemmas.{adds_arg, adds_both}
use Rattle.view_commands.proofs.starts.with_starts.Goals as goal

pub returns : goal.returns
returns c =
    let one = adds_arg c.args.command c.in_ok-command.command c.from.result _ c.in_ok-command.ensures
    c.from.ensures.local c.from.ensures.rule in
    let two = adds_both c.args.command c.in_ok-command.command c.in_ok-command-2.command _ _ one
    c.in_ok-command-2.ensures in
    let three = adds_both c.args.command c.in_ok-command-2.command c.in_ok-command-3.command _ _ two
    (adds_arg c.in_ok-command-2.command c.in_ok-command-3.command c.flag.result _ c.in_ok-command-3.ensures
    c.flag.ensures.local c.flag.ensures.rule) in
    let four = adds_both c.args.command c.in_ok-command-3.command c.in_ok-command-4.command _ _ three
    c.in_ok-command-4.ensures in
    IfOk-weaker c.with_units.result _ _ (λ new added. adds_both c.args.command c.in_ok-command-4.command new _ _ four
    added) c.with_units.ensures
