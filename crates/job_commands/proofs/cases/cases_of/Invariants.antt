use Rattle.std.proofs.Common.{◌≡◌, ◌≤◌, length, map, take}
use Rattle.job_commands.specs.Cases.{AreCases}
use Rattle.job_commands.proofs.cases.cases_of.Given as goal

abbrev pub invariant-loop-number : goal.invariant-loop-number
invariant-loop-number l = record {
  cases : AreCases l.options (take l.number (map (λ w. w.now) l.words)) l.cases.items;
  each : length l.cases.items ≡ l.number;
  within : l.number ≤ length l.words;
}
