use Rattle.std.proofs.Common.{◌≡◌, length, ap, append_assoc, arith}
use Rattle.migration_model.specs.Rounds.{MigrationPlan}
use Rattle.rate_limit.specs.Pacing.{reason_of}
use Rattle.trace_views.proofs.report_document.write_stop.Goals as goal

pub returns : goal.returns
returns c =
    let stop : c.plan.inside.stop ≡ c.args.plan.now.stop = ap (λ (p : MigrationPlan). p.stop) c.plan.view_is in
    let down : c.plan.inside.down ≡ c.args.plan.now.down = ap (λ (p : MigrationPlan). p.down) c.plan.view_is in
    let reason : reason_of c.plan.inside.reason ≡ c.args.plan.now.reason =
    ap (λ (p : MigrationPlan). p.reason) c.plan.view_is in
    let last : c.len.result ≡ length c.args.plan.now.last = omega
    (arith, c.len.ensures, ap (λ (p : MigrationPlan). length p.last) c.plan.view_is) in
    rw (
      c.in_ok-end_object.ensures,
      c.in_ok-write_stop_units.ensures,
      c.in_ok-number_member-4.ensures,
      c.total.ensures,
      c.in_ok-number_member-3.ensures,
      c.in_ok-number_member-2.ensures,
      c.in_ok-number_member.ensures,
      c.in_ok-text_member.ensures,
      c.word.ensures,
      c.in_ok-begin_object.ensures,
      last,
      stop,
      down,
      reason,
    )
    (simp append_assoc)
