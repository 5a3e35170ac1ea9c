use Rattle.std.proofs.Common.{◌∙◌, rules}
use Rattle.live_engine.proofs.migration.live_run.Goals as goal

pub returns : goal.returns
returns g c =
    let stopped = c.in_ok-stopped.ensures in
    record {
      plan = stopped.plan;
      is_plan = stopped.is_plan;
      stop_is = stopped.stop_is;
      at_stop_is = c.in_ok-at_stop.ensures.at_stop ∙ stopped.at_stop_is;
      at_end_is = search rules;
      law = stopped.law;
    }
