use Rattle.std.proofs.Common.{map, take}
use Rattle.job_commands.specs.Commands.{AddsRules, number_rule}
use Rattle.job_commands.proofs.options.with_numbers.Given as goal

abbrev pub invariant-loop-name : goal.invariant-loop-name
invariant-loop-name l = AddsRules l.fn.command (map (λ n. number_rule n.0.now) (take l.name-index l.numbers)) l.command
