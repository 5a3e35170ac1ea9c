use Rattle.std.proofs.lemmas.Result.{IfOk-weaker}
use Rattle.job_commands.proofs.CommandLemmas.{adds_both}
use Rattle.job_commands.proofs.options.with_report.Goals as goal

pub returns : goal.returns
returns c = IfOk-weaker c.with_numbers.result _ _ (λ new added. adds_both c.args.command c.in_ok-command.command new _ _
    c.in_ok-command.ensures added) c.with_numbers.ensures
