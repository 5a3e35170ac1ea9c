use Rattle.std.proofs.lemmas.Result.{IfOk-weaker}
use Rattle.job_commands.proofs.CommandLemmas.{adds_both}
use Rattle.view_commands.proofs.command.with_prediction.Goals as goal

pub returns : goal.returns
returns c =
    let two = adds_both c.args.command c.in_ok-command.command c.in_ok-command-2.command _ _ c.in_ok-command.ensures
    c.in_ok-command-2.ensures in
    IfOk-weaker c.with_units.result _ _ (λ new added. adds_both c.args.command c.in_ok-command-2.command new _ _ two
    added) c.with_units.ensures
