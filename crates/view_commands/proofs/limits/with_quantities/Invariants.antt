use Rattle.std.proofs.Common.{map, take}
use Rattle.job_commands.specs.Commands.{AddsRules}
use Rattle.view_commands.specs.Units.{quantity_rule}
use Rattle.view_commands.proofs.limits.with_quantities.Given as goal

abbrev pub invariant-loop-name : goal.invariant-loop-name
invariant-loop-name l = AddsRules l.fn.command (map (λ q. quantity_rule q.0.now) (take l.name-index l.quantities))
    l.command
