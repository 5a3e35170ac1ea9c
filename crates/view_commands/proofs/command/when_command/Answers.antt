use Rattle.std.proofs.lemmas.Result.{IfOk-weaker}
use Rattle.job_commands.proofs.CommandLemmas.{adds_both, leaf_with}
use Rattle.view_commands.proofs.command.when_command.Goals as goal

pub returns : goal.returns
returns c = IfOk-weaker c.with_chart.result _ _ (λ new added. leaf_with c.leaf_command-when.result new _ _
    c.leaf_command-when.ensures
    (adds_both c.leaf_command-when.result c.in_ok-with_starts.field-0 new _ _ c.in_ok-with_starts.ensures added))
    c.with_chart.ensures
