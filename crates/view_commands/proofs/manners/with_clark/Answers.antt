use Rattle.std.proofs.lemmas.Result.{IfOk-weaker}
use Rattle.job_commands.proofs.CommandLemmas.{adds_arg}
use Rattle.view_commands.proofs.manners.with_clark.Goals as goal

pub returns : goal.returns
returns c = IfOk-weaker c.arg.result _ _ (λ new added. adds_arg c.args.command new c.flag.result _ added
    c.flag.ensures.local c.flag.ensures.rule) c.arg.ensures
