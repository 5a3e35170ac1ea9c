use Rattle.std.proofs.lemmas.Result.{IfOk-weaker}
use Rattle.job_commands.proofs.CommandLemmas.{adds_arg, adds_both}
use Rattle.job_commands.proofs.options.with_live.Goals as goal

pub returns : goal.returns
returns c = IfOk-weaker c.arg.result _ _ (λ new added. adds_both c.args.command c.in_ok-command-2.command new _ _
    (adds_both c.args.command c.in_ok-command.command c.in_ok-command-2.command _ _ c.in_ok-command.ensures
    c.in_ok-command-2.ensures)
    (adds_arg c.in_ok-command-2.command new c.flag.result _ added c.flag.ensures.local c.flag.ensures.rule))
    c.arg.ensures
