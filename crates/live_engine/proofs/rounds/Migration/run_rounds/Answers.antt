use Rattle.std.proofs.Common.{◌≡◌, ℕ, ◌<◌, ◌≤◌, ◌++◌, ◌∷◌, [], Bool, List, length, take, get_or, sym, ap, subst, ◌∙◌}
use Rattle.std.proofs.Common.{arith}
use Rattle.migration_model.specs.Rates.{MigrationSettings}
use Rattle.migration_model.specs.Rounds.{PlannedRound, MigrationPlan}
use Rattle.migration_model.specs.Live.{LiveRounds}
use Rattle.live_engine.specs.Joining.{AreJoined, HaveCapacity}
use Rattle.live_engine.specs.Lists.{rows_of}
use Rattle.live_engine.proofs.Planned.{Remaining, all_taken, none_remains, round_next, taken_next}
use Rattle.live_engine.proofs.rounds.Migration.run_rounds.Goals as goal

pub loop-number-preserved : goal.loop-number-preserved
loop-number-preserved g c =
    let trace = (g.W.WriteLog.trace c.args.self.now.trace.now) in
    let copiers = c.args.self.now.team.copiers in
    let plan = c.args.self.now.plan.now in
    let number = c.loop-number.number in
    let round = c.index.result.now in
    let before = c.loop-number.progress in
    let after = c.in_ok-progress-2.progress in
    let low : number < length plan.rounds = grind (
      arith,
      c.loop-number-test.true,
      c.len-number-end.ensures,
      ap
          (λ (p : MigrationPlan). length p.rounds) c.plan.view_is,
    ) in
    let there : round ≡ get_or plan.rounds number round = c.index.ensures
    ∙ ap (λ (p : MigrationPlan). get_or p.rounds number round) c.plan.view_is in
    let old = c.loop-number.invariant.joined in
    let next = round_next trace c.args.self.now.settings.now plan old.0 number round low there old.1 in
    let skip : c.asked.inside.skip ≡ c.args.self.now.settings.now.skip = ap (λ (s : MigrationSettings). s.skip)
    (c.asked.view_is ∙ c.asked-asked.ensures.value) in
    let taken = taken_next plan.rounds number round low there in
    let joined : AreJoined trace c.args.self.now.settings.now.base copiers round.from (take number plan.rounds)
    before.rounds.items before.closed (rows_of before.states.items) =
    subst (λ (tick : ℕ). AreJoined trace c.args.self.now.settings.now.base copiers tick (take number plan.rounds)
    before.rounds.items before.closed (rows_of before.states.items)) (sym next.0) old.2 in
    record {
      under_way = c.in_ok-progress-2.ensures.under_way;
      lanes = c.in_ok-progress-2.ensures.lanes ∙ c.loop-number.invariant.lanes;
      law = λ lane capacity. subst (λ (ps : List PlannedRound). LiveRounds trace c.args.self.now.settings.now.base
          c.args.self.now.settings.now.skip copiers lane ps after.rounds.items) (sym taken)
          (subst (λ (skip : Bool). LiveRounds trace c.args.self.now.settings.now.base skip copiers lane
          (take number plan.rounds ++ round ∷ []) after.rounds.items) skip
          (c.in_ok-progress-2.ensures.law c.args.self.now.settings.now.base lane (take number plan.rounds)
          (subst (HaveCapacity lane) (sym c.loop-number.invariant.lanes) capacity) joined
          (subst (λ (skip : Bool). LiveRounds trace c.args.self.now.settings.now.base skip copiers lane
          (take number plan.rounds) before.rounds.items) (sym skip) (c.loop-number.invariant.law lane capacity))));
      joined = (
        round.to,
        next.2,
        subst (λ (ps : List PlannedRound). AreJoined trace c.args.self.now.settings.now.base copiers round.to ps
            after.rounds.items after.closed (rows_of after.states.items)) (sym taken)
            (c.in_ok-progress-2.ensures.joined c.args.self.now.settings.now.base (take number plan.rounds) joined),
      );
    }

pub returns : goal.returns
returns g c =
    let trace = (g.W.WriteLog.trace c.args.self.now.trace.now) in
    let copiers = c.args.self.now.team.copiers in
    let s = c.args.self.now.settings.now in
    let plan = c.args.self.now.plan.now in
    let p = c.loop-number.progress in
    let number = c.loop-number.number in
    let past : length plan.rounds ≤ number = grind (
      arith,
      c.loop-number-test.false,
      c.len-number-end.ensures,
      ap (λ (p : MigrationPlan). length p.rounds)
          c.plan.view_is,
    ) in
    let taken = all_taken plan.rounds number past in
    let old = c.loop-number.invariant.joined in
    let stop : plan.stop ≡ old.0 = none_remains trace s plan old.0
    (subst (λ (rounds : List PlannedRound). Remaining trace s plan old.0 rounds) taken.1 old.1) in
    record {
      under_way = c.loop-number.invariant.under_way;
      lanes = c.loop-number.invariant.lanes;
      joined = subst (λ (ps : List PlannedRound). AreJoined trace c.args.self.now.settings.now.base copiers plan.stop ps
          p.rounds.items p.closed (rows_of p.states.items)) taken.0
          (subst (λ (tick : ℕ). AreJoined trace c.args.self.now.settings.now.base copiers tick (take number plan.rounds)
          p.rounds.items p.closed (rows_of p.states.items)) (sym stop) old.2);
      law = λ lane capacity. subst (λ (ps : List PlannedRound). LiveRounds trace s.base s.skip copiers lane ps
          p.rounds.items) taken.0 (c.loop-number.invariant.law lane capacity);
    }
