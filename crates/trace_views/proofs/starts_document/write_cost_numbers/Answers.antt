use Rattle.std.proofs.Common.{◌≡◌, ap, append_assoc}
use Rattle.std.proofs.lemmas.List.{append-nil}
use Rattle.predictions.specs.Predictions.{MigrationCost}
use Rattle.trace_views.proofs.starts_document.write_cost_numbers.Goals as goal

pub returns : goal.returns
returns c =
    let cost = c.args.cost.now in
    let same = c.cost.view_is in
    let steps : c.cost.inside.steps ≡ cost.steps = ap (λ (k : MigrationCost). k.steps) same in
    let time : c.cost.inside.time ≡ cost.time = ap (λ (k : MigrationCost). k.time) same in
    let bytes : c.cost.inside.bytes ≡ cost.bytes = ap (λ (k : MigrationCost). k.bytes) same in
    let down : c.cost.inside.downtime ≡ cost.downtime = ap (λ (k : MigrationCost). k.downtime) same in
    rw (
      c.in_ok-seconds_member-2.ensures,
      c.in_ok-wide_member.ensures,
      c.in_ok-seconds_member.ensures,
      c.in_ok-write_steps.ensures,
      steps,
      time,
      bytes,
      down,
    ) (simp (append_assoc, append-nil))
