use Rattle.std.proofs.Common.{◌≡◌, length, ap, append_assoc, arith}
use Rattle.std.proofs.lemmas.List.{append-nil}
use Rattle.migration_model.specs.Rounds.{MigrationPlan}
use Rattle.trace_views.proofs.report_document.write_stop_measures.Goals as goal

pub returns : goal.returns
returns c =
    let stop : c.plan.inside.stop ≡ c.args.plan.now.stop = ap (λ (p : MigrationPlan). p.stop) c.plan.view_is in
    let down : c.plan.inside.down ≡ c.args.plan.now.down = ap (λ (p : MigrationPlan). p.down) c.plan.view_is in
    let last : c.len.result ≡ length c.args.plan.now.last = omega
    (arith, c.len.ensures, ap (λ (p : MigrationPlan). length p.last) c.plan.view_is) in
    rw (
      c.in_ok-wide_member-2.ensures,
      c.bytes-2.ensures.size,
      c.total.ensures,
      c.in_ok-seconds_member-2.ensures,
      c.micros-2.ensures.time,
      c.in_ok-wide_member.ensures,
      c.bytes.ensures.size,
      c.in_ok-seconds_member.ensures,
      c.micros.ensures.time,
      last,
      stop,
      down,
    ) (simp (append_assoc, append-nil))
