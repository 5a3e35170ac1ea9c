use Rattle.std.proofs.Common.{◌≡◌, ap, append_assoc}
use Rattle.std.proofs.lemmas.List.{append-nil}
use Rattle.predictions.specs.Starts.Costs.{CostAtStart}
use Rattle.trace_views.proofs.starts_document.write_start.Goals as goal

pub returns : goal.returns
returns c =
    let start : c.at.inside.start ≡ c.args.at.now.start = ap (λ (s : CostAtStart). s.start) c.at.view_is in
    let cost : c.at.inside.cost ≡ c.args.at.now.cost = ap (λ (s : CostAtStart). s.cost) c.at.view_is in
    let errors : c.at.inside.errors ≡ c.args.at.now.errors = ap (λ (s : CostAtStart). s.errors) c.at.view_is in
    rw (
      c.in_ok-end_object.ensures,
      c.in_ok-write_errors.ensures,
      c.in_ok-write_cost.ensures,
      c.in_ok-seconds_member.ensures,
      c.micros.ensures.time,
      c.in_ok-number_member.ensures,
      c.in_ok-begin_object.ensures,
      start,
      cost,
      errors,
    ) (simp (append_assoc, append-nil))
