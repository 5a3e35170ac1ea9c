use Rattle.std.proofs.Common.{◌≡◌, ◌≤◌, ◌*◌, ◌^◌, take}
use Rattle.std.specs.Prelude.{sum_by}
use Rattle.move_schedules.proofs.costs.all_bytes.Given as goal

abbrev pub invariant-loop-each : goal.invariant-loop-each
invariant-loop-each l = record {
  sum : l.bytes ≡ sum_by (λ m. m.bytes) (take l.each-index l.moves);
  few : l.bytes ≤ l.each-index * 2 ^ 64;
}
