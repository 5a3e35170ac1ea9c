use Rattle.std.proofs.lemmas.Result.{IfOk-weaker}
use Rattle.job_commands.proofs.CommandLemmas.{adds_arg, adds_both}
use Rattle.view_commands.proofs.limits.with_scale.Goals as goal

pub returns : goal.returns
returns c = IfOk-weaker c.arg.result _ _ (λ new added. adds_both c.args.command c.in_ok-command.command new _ _
    c.in_ok-command.ensures
    (adds_arg c.in_ok-command.command new c.number.result _ added c.number.ensures.local c.number.ensures.rule))
    c.arg.ensures
