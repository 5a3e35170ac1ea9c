use Rattle.std.proofs.Common.{List, arith, sym, subst}
use Rattle.clap.specs.Walk.{Rule}
use Rattle.job_commands.specs.Commands.{AddsRules}
use Rattle.job_commands.proofs.CommandLemmas.{adds_arg, adds_both, map-take_more}
use Rattle.job_commands.proofs.options.with_numbers.Goals as goal

pub loop-name-preserved : goal.loop-name-preserved
loop-name-preserved c =
    let P : List Rule → Type 0 = λ rules. AddsRules c.args.command rules c.in_ok-command.command in
    subst P (sym (map-take_more _ c.args.numbers.now c.loop-name.name-index _ (omega arith)))
    (adds_both c.args.command c.loop-name.command c.in_ok-command.command _ _ c.loop-name.invariant
    (adds_arg c.loop-name.command c.in_ok-command.command c.number.result _ c.in_ok-command.ensures
    c.number.ensures.local c.number.ensures.rule))
