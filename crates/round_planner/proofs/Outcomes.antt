-- A plan by its numbers: what holds between its rounds, and what its sums are.
use Rattle.std.proofs.Common.{◌≡◌, ℕ, ◌+◌, ◌-◌, ◌≤◌, Bool, ◌&&◌, leb, true, false, List, [], ◌∷◌, ◌++◌, length}
use Rattle.std.proofs.Common.{refl, sym, ap, ◌∙◌, arith}
use Rattle.std.proofs.lemmas.Bool.{leb-true}
use Rattle.std.proofs.lemmas.List.{length_push}
use Rattle.std.proofs.lemmas.List.Sums.{sum_by-append, sum_by-cons}
use Rattle.migration_model.specs.Rates.{MigrationSettings, AreSettings, StopReason, stops, after_round, duration_of}
use Rattle.migration_model.specs.Rounds.{PlannedRound, MigrationPlan, NextRound, IsPlan, plan_with, pages_lacking}
use Rattle.migration_model.specs.Rounds.{first_round, round_after, total_of}
use Rattle.migration_model.specs.Sweeps.{IsOutcome, PlanOutcome, outcome_of, outcome_with}
use Rattle.migration_model.specs.Touches.{GuestTouch}
use Rattle.round_planner.specs.Indexing.{IsFirst, IsPoint, StandsAt, RanTo}
use Rattle.round_planner.specs.Ways.{AreDone, all_sent}
use Rattle.round_planner.specs.Steps.{IsAfter, first_step, numbers_after}
use Rattle.round_planner.specs.declared.step.After.TheVariants.{Go}
use Rattle.round_planner.specs.declared.step.Step.{Step}
use Rattle.round_planner.specs.declared.numbers.RoundSums.{RoundSums}
use Rattle.round_planner.specs.declared.numbers.RoundNumbers.{RoundNumbers}
use Rattle.round_planner.proofs.Plans.{follows_start, follows_more, follows_end, can_start, can_go_on}

pub sent_push : (rounds : List PlannedRound) (round : PlannedRound)
    → all_sent (rounds ++ round ∷ []) ≡ all_sent rounds + length round.sent
sent_push rounds round =
    let one = sum_by-cons (λ (r : PlannedRound). length r.sent) round [] in
    omega (arith, sum_by-append (λ (r : PlannedRound). length r.sent) rounds (round ∷ []), one)

-- only a later round skips
pub skips_later : (skip : Bool) (done : ℕ) → (skip && leb 1 done) ≡ true → 1 ≤ done
skips_later true done is = leb-true 1 done is
skips_later false done is = absurd cc

-- the numbers of the first round
pub first_is : (pages : ℕ) (touches : List GuestTouch) (s : MigrationSettings) (now : RoundNumbers) → AreSettings s
    → pages ≤ 65_536
    → now.step ≡ first_step s → now.total ≡ 0 → now.listed ≡ length (pages_lacking pages touches s.base s.start)
    → now.next ≤ length touches → IsPoint touches s.start now.next
    → IsFirst pages touches s now
first_is pages touches s now are few step total listed bound point = record {
  at = record {
    can = can_start pages touches s (first_round pages touches s) are few refl;
    done_is = ap (λ (x : Step). x.done) step;
    from_is = ap (λ (x : Step). x.from) step;
    rate_is = ap (λ (x : Step). x.rate) step;
    listed_is = listed;
    bound = bound;
    point = point;
  };
  done = ap (λ (x : Step). x.done) step;
  total = total;
  in_range = are;
}

pub starts : (pages : ℕ) (touches : List GuestTouch) (s : MigrationSettings) (now : RoundNumbers)
    → IsFirst pages touches s now → AreDone pages touches s now (first_round pages touches s) []
starts pages touches s now first = record {
  at = first.at;
  follows = follows_start pages touches s (first_round pages touches s) [] refl refl;
  count = sym first.done;
  total = sym first.total;
  few = omega (arith, first.total);
}

-- the stop tests see the round's numbers
pub same_after : (pages : ℕ) (touches : List GuestTouch) (s : MigrationSettings) (now : RoundNumbers)
    (coming : NextRound) (ran : RoundSums) → StandsAt pages touches s coming now
    → (r : RanTo pages touches s coming ran)
    → after_round s ran.dirtied (ran.to - now.step.from) (now.step.done + 1)
    ≡ after_round s r.round.dirtied (r.round.to - r.round.from) (coming.done + 1)
same_after pages touches s now coming ran at r =
    let round = r.run.is_round in
    let dirtied : ran.dirtied ≡ r.round.dirtied = r.dirtied_is ∙ ap length r.run.dirtied_are ∙ sym round.dirtied_is in
    let from : now.step.from ≡ r.round.from = at.from_is ∙ sym round.from_is in
    λ i. after_round s (dirtied i) (r.to_is i - from i) (at.done_is i + 1)

pub goes_further : (pages : ℕ) (touches : List GuestTouch) (s : MigrationSettings) (now : RoundNumbers)
    (coming : NextRound) (rounds : List PlannedRound) (ran : RoundSums) (step : Step) → AreSettings s
    → AreDone pages touches s now coming rounds → (r : RanTo pages touches s coming ran)
    → IsAfter s now.step ran.to ran.dirtied (Go step)
    → AreDone pages touches s (numbers_after now ran step) (round_after pages touches coming r.round step.rate)
    (rounds ++ r.round ∷ [])
goes_further pages touches s now coming rounds ran step are way r after =
    let at = way.at in
    let round = r.round in
    let next = round_after pages touches coming round step.rate in
    let told = sym (same_after pages touches s now coming ran at r) ∙ after.0 in
    let done : step.done ≡ now.step.done + 1 = after.1.0 in
    let pushed = length_push rounds round in
    record {
      at = record {
        can = can_go_on pages touches s coming next round r.dirtied (round.to - round.from) step.rate are at.can r.run
            told refl;
        done_is = done ∙ ap (λ n. n + 1) at.done_is;
        from_is = after.1.1 ∙ r.to_is;
        rate_is = refl;
        listed_is = r.dirtied_is ∙ ap length r.run.dirtied_are;
        bound = r.bound;
        point = r.point;
      };
      follows = follows_more pages touches s coming next rounds (rounds ++ round ∷ []) round r.dirtied step.rate r.run
          told refl refl way.follows;
      count = omega (arith, pushed, way.count, done);
      total = omega (arith, sent_push rounds round, way.total, r.sent_is);
      few = omega (arith, way.few, r.sent_is, r.run.few, done);
    }

-- the plan of which these are all rounds
pub record ComesTo (pages : ℕ) (touches : List GuestTouch) (s : MigrationSettings) (rounds : List PlannedRound)
    (outcome : PlanOutcome) : Type 0 where
  pub plan : MigrationPlan
  pub is_plan : IsPlan pages touches s plan
  pub outcome_is : outcome ≡ outcome_of plan
  pub rounds_are : plan.rounds ≡ rounds

pub comes_to : (pages : ℕ) (touches : List GuestTouch) (s : MigrationSettings) (now : RoundNumbers) (coming : NextRound)
    (before : List PlannedRound) (ran : RoundSums)
    (reason : StopReason) (outcome : PlanOutcome) → AreDone pages touches s now coming before
    → (r : RanTo pages touches s coming ran)
    → after_round s ran.dirtied (ran.to - now.step.from) (now.step.done + 1) ≡ stops reason
    → outcome ≡ outcome_with (now.step.done + 1) reason ran.to (duration_of ran.dirtied s.max)
    ((now.total + ran.sent) + ran.dirtied)
    → ComesTo pages touches s (before ++ r.round ∷ []) outcome
comes_to pages touches s now coming before ran reason outcome way r after is =
    let round = r.round in
    let rounds = before ++ round ∷ [] in
    let told = sym (same_after pages touches s now coming ran way.at r) ∙ after in
    let plan = plan_with rounds reason round.to r.dirtied (duration_of (length r.dirtied) s.max) in
    let count : now.step.done + 1 ≡ length rounds = omega (arith, length_push before round, way.count) in
    let total : (now.total + ran.sent) + ran.dirtied ≡ total_of plan =
    omega (arith, sent_push before round, way.total, r.sent_is, r.dirtied_is) in
    record {
      plan = plan;
      is_plan = follows_end pages touches s coming before rounds round r.dirtied reason plan r.run told refl refl
          way.follows;
      outcome_is = is ∙ (λ i. outcome_with (count i) reason (r.to_is i) (duration_of (r.dirtied_is i) s.max) (total i));
      rounds_are = refl;
    }

pub is_outcome : (pages : ℕ) (touches : List GuestTouch) (s : MigrationSettings) (rounds : List PlannedRound)
    (outcome : PlanOutcome) → ComesTo pages touches s rounds outcome
    → IsOutcome pages touches s outcome
is_outcome pages touches s rounds outcome found = record {
  plan = found.plan;
  is_plan = found.is_plan;
  outcome_is =
      found.outcome_is;
}
