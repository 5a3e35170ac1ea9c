use Rattle.std.proofs.Common.{◌≡◌, List, sym, ap, subst, rules, arith}
use Rattle.std.specs.Prelude.{Option, IfSome}
use Rattle.std.specs.List.{All}
use Rattle.migration_model.specs.Final.{shape_of_trace}
use Rattle.migration_model.specs.Parts.{GuestPart}
use Rattle.migration_model.specs.Rounds.{MigrationPlan}
use Rattle.live_engine.specs.Runs.{AllArrived, AllSentArrived}
use Rattle.stream_receivers.specs.First.{parts_with}
use Rattle.live_engine.proofs.Arrived.{all_came, keeps_settings, still_crossed}
use Rattle.live_engine.proofs.Begun.{all_begun, shapes_begun}
use Rattle.live_engine.proofs.migration.migrate.Goals as goal

pub drain_all-requires : goal.drain_all-requires
drain_all-requires g c =
    let trace = g.W.WriteLog.trace c.args.trace.now in
    still_crossed trace c.args.settings.now c.in_ok-plan.field-0.plan c.of-team.result c.in_ok-states.states.items
    c.in_ok-states.receivers.items c.in_ok-progress.field-0 c.in_ok-states.ensures.opened c.in_ok-progress.ensures

pub join_first-requires-clause-some : goal.join_first-requires-clause-some
join_first-requires-clause-some g c =
    let trace = g.W.WriteLog.trace c.args.trace.now in
    let closed = c.in_ok-progress.field-0.progress.closed in
    let came : AllSentArrived trace c.args.settings.now.base c.of-team.result.streams closed
    c.in_ok-arrived.arrived.items =
    all_came trace c.args.settings.now c.in_ok-plan.field-0.plan c.of-team.result c.in_ok-states.states.items
    c.in_ok-states.receivers.items c.in_ok-progress.field-0 c.in_ok-arrived.arrived.items
    c.in_ok-states.ensures.opened c.in_ok-progress.ensures (c.in_ok-arrived.ensures.arrived (shape_of_trace trace)) in
    omega (arith, came.count, c.of-team.ensures.is_team.streams.0)

pub join_first-requires-clause-shapes : goal.join_first-requires-clause-shapes
join_first-requires-clause-shapes g c =
    let trace = g.W.WriteLog.trace c.args.trace.now in
    let closed = c.in_ok-progress.field-0.progress.closed in
    let came : AllSentArrived trace c.args.settings.now.base c.of-team.result.streams closed
    c.in_ok-arrived.arrived.items =
    all_came trace c.args.settings.now c.in_ok-plan.field-0.plan c.of-team.result c.in_ok-states.states.items
    c.in_ok-states.receivers.items c.in_ok-progress.field-0 c.in_ok-arrived.arrived.items
    c.in_ok-states.ensures.opened c.in_ok-progress.ensures (c.in_ok-arrived.ensures.arrived (shape_of_trace trace)) in
    subst (λ (o : Option GuestPart). IfSome o (λ one. All (λ part. one.shape ≡ part.shape)
    c.in_ok-arrived.arrived.items)) (sym c.in_ok-plan.ensures.first)
    (shapes_begun trace c.args.settings.now.base c.in_ok-arrived.arrived.items came.not_beyond.shapes)

pub stop_and_copy-requires-clause-arrived : goal.stop_and_copy-requires-clause-arrived
stop_and_copy-requires-clause-arrived g c κs within =
    let trace = g.W.WriteLog.trace c.args.trace.now in
    let closed = c.in_ok-progress.field-0.progress.closed in
    let came : AllSentArrived trace c.args.settings.now.base c.of-team.result.streams closed
    c.in_ok-arrived.arrived.items =
    all_came trace c.args.settings.now c.in_ok-plan.field-0.plan c.of-team.result c.in_ok-states.states.items
    c.in_ok-states.receivers.items c.in_ok-progress.field-0 c.in_ok-arrived.arrived.items
    c.in_ok-states.ensures.opened c.in_ok-progress.ensures (c.in_ok-arrived.ensures.arrived (shape_of_trace trace)) in
    subst (λ (parts : List GuestPart). AllArrived trace c.of-team.result.streams closed parts)
    (sym c.in_ok-parts.ensures)
    (subst (λ (o : Option GuestPart). AllArrived trace c.of-team.result.streams closed
    (parts_with o c.in_ok-arrived.arrived.items)) (sym c.in_ok-plan.ensures.first)
    (all_begun trace c.args.settings.now.base c.of-team.result.streams closed c.in_ok-arrived.arrived.items
    c.in_ok-states.ensures.opened.is_trace c.of-team.ensures.is_team.streams.0 came))

pub returns : goal.returns
returns g c =
    let trace = g.W.WriteLog.trace c.args.trace.now in
    let done = c.in_ok-progress.ensures.done in
    let law = keeps_settings trace c.args.settings.now c.in_ok-plan.field-0.plan c.of-team.result
    c.in_ok-states.states.items c.in_ok-states.receivers.items c.in_ok-progress.field-0.progress
    c.of-team.ensures c.in_ok-states.ensures.opened done in
    record {
      plan = c.in_ok-plan.field-0.plan;
      is_plan = c.in_ok-plan.ensures.plan;
      stop_is = ap (λ (plan : MigrationPlan). plan.stop) c.plan.view_is;
      at_stop_is = c.in_ok-memory.ensures.at_stop c.in_ok-plan.field-0.plan.stop done.joined.versions;
      stopped = search rules;
      law = law;
    }
