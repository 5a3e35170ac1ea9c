-- A plan of redrawn pages between its rounds.
use Rattle.std.proofs.Common.{◌≡◌, ℕ, ◌+◌, ◌-◌, ◌*◌, ◌/◌, ◌%◌, ◌≤◌, List, [], ◌∷◌, ◌++◌, length, refl, sym, ap, ◌∙◌}
use Rattle.std.proofs.Common.{arith}
use Rattle.std.proofs.Math.Nat.{div-add-mod, min-le_left, min-le_right, mul-le-mul_left}
use Rattle.std.proofs.lemmas.List.{length_push}
use Rattle.migration_model.specs.Rates.{MigrationSettings, AreSettings, StopReason, goes_on, stops, after_round}
use Rattle.migration_model.specs.Rates.{duration_of}
use Rattle.migration_model.specs.Rounds.{PlannedRound, NextRound, plan_with, first_round, round_after, total_of}
use Rattle.migration_model.specs.Sweeps.{IsOutcome, PlanOutcome, outcome_with}
use Rattle.migration_model.specs.Touches.{GuestTouch}
use Rattle.look_planner.specs.DrawnPages.{AreDrawn, redrawn_touches}
use Rattle.predictions.specs.Redrawn.Rounds.{HasRunTo, StandsAt}
use Rattle.round_planner.specs.Scanning.{IsScan}
use Rattle.round_planner.specs.Steps.{numbers_after}
use Rattle.round_planner.specs.declared.numbers.RoundNumbers.{RoundNumbers}
use Rattle.round_planner.specs.declared.numbers.RoundSums.{RoundSums}
use Rattle.round_planner.specs.declared.step.Step.{Step}
use Rattle.round_planner.specs.Ways.{Follows, all_sent}
use Rattle.round_planner.proofs.Outcomes.{sent_push}
use Rattle.round_planner.proofs.Plans.{follows_start, follows_more, follows_end, can_go_on}
use Rattle.look_planner.proofs.DrawnPages.{marked_places}

-- the rounds so far, and the one that may come
pub record IsUnderWay (pages : ℕ) (touches : List GuestTouch) (drawn : List ℕ) (s : MigrationSettings)
    (now : RoundNumbers)
    (listed marks : List ℕ) : Type 0 where
  pub coming : NextRound
  pub rounds : List PlannedRound
  pub at : StandsAt pages touches drawn s coming now listed marks
  pub follows : Follows (length drawn) (redrawn_touches drawn touches) s coming rounds
  pub count : length rounds ≡ now.step.done
  pub total : all_sent rounds ≡ now.total
  pub few : now.total ≤ now.step.done * 65_536
  pub are : AreSettings s
  pub soon : now.step.from ≤ s.start + now.step.done * 65_536_000

pub starts : (pages : ℕ) (touches : List GuestTouch) (drawn : List ℕ) (s : MigrationSettings) (now : RoundNumbers)
    (listed marks : List ℕ)
    → StandsAt pages touches drawn s (first_round (length drawn) (redrawn_touches drawn touches) s) now listed marks
    → AreSettings s → now.step.done ≡ 0 → now.total ≡ 0 → IsUnderWay pages touches drawn s now listed marks
starts pages touches drawn s now listed marks at are done total = record {
  are = are;
  coming = first_round (length drawn) (redrawn_touches drawn touches) s;
  rounds = [];
  at = at;
  follows = follows_start (length drawn) (redrawn_touches drawn touches) s _ [] refl refl;
  count = sym done;
  total = sym total;
  few = omega (arith, total);
  soon = omega (arith, at.from_is);
}

-- the stop tests see the round's numbers
same_after : (pages : ℕ) (touches : List GuestTouch) (drawn : List ℕ) (s : MigrationSettings) (now : RoundNumbers)
    (coming : NextRound) (ran : RoundSums) (listed marks new_marks : List ℕ)
    → StandsAt pages touches drawn s coming now listed marks
    → (r : HasRunTo pages touches drawn s coming ran new_marks)
    → after_round s ran.dirtied (ran.to - now.step.from) (now.step.done + 1)
    ≡ after_round s r.round.dirtied (r.round.to - r.round.from) (coming.done + 1)
same_after pages touches drawn s now coming ran listed marks new_marks at r =
    let round = r.run.is_round in
    let dirtied : ran.dirtied ≡ r.round.dirtied = r.dirtied_is ∙ ap length r.run.dirtied_are ∙ sym round.dirtied_is in
    let from : now.step.from ≡ r.round.from = at.from_is ∙ sym round.from_is in
    λ i. after_round s (dirtied i) (r.to_is i - from i) (at.done_is i + 1)

pub goes_further : (pages : ℕ) (touches : List GuestTouch) (drawn : List ℕ) (s : MigrationSettings) (now : RoundNumbers)
    (ran : RoundSums) (step : Step) (listed marks new_marks fresh : List ℕ) → AreDrawn pages drawn
    → (before : IsUnderWay pages touches drawn s now listed marks)
    → HasRunTo pages touches drawn s before.coming ran new_marks
    → (after_round s ran.dirtied (ran.to - now.step.from) (now.step.done + 1) ≡ goes_on step.rate)
    × ((step.done ≡ now.step.done + 1) × (step.from ≡ ran.to))
    → ((from tick : ℕ) → IsScan pages touches from tick ran.next new_marks
    → IsScan pages touches tick tick ran.next fresh)
    → IsUnderWay pages touches drawn s (numbers_after now ran step) new_marks fresh
goes_further pages touches drawn s now ran step listed marks new_marks fresh drawn_are before r after turned =
    let at = before.at in
    let round = r.round in
    let all = redrawn_touches drawn touches in
    let next = round_after (length drawn) all before.coming round step.rate in
    let told = sym (same_after pages touches drawn s now before.coming ran listed marks new_marks at r) ∙ after.0 in
    let pushed = length_push before.rounds round in
    let from : before.coming.from ≡ round.from = sym r.run.is_round.from_is in
    record {
      are = before.are;
      coming = next;
      rounds = before.rounds ++ round ∷ [];
      at = record {
        can = can_go_on (length drawn) all s before.coming next round r.dirtied (round.to - round.from) step.rate
            before.are
            at.can r.run told refl;
        done_is = after.1.0 ∙ ap (λ n. n + 1) at.done_is;
        from_is = after.1.1 ∙ r.to_is;
        rate_is = refl;
        listed_is = r.dirtied_is ∙ ap length r.run.dirtied_are;
        pages_are = marked_places pages touches drawn round.from round.to ran.next new_marks drawn_are
            (rw from at r.scan);
        scan = turned before.coming.from round.to r.scan;
      };
      follows = follows_more (length drawn) all s before.coming next before.rounds (before.rounds ++ round ∷ []) round
          r.dirtied step.rate r.run told refl refl before.follows;
      count = omega (arith, pushed, before.count, after.1.0);
      total = omega (arith, sent_push before.rounds round, before.total, r.sent_is);
      few = omega (arith, before.few, r.sent_is, r.run.few, after.1.0);
      soon = omega (arith, before.soon, r.to_is, r.run.short, from, at.from_is, after.1);
    }

pub comes_to : (pages : ℕ) (touches : List GuestTouch) (drawn : List ℕ) (s : MigrationSettings) (now : RoundNumbers)
    (ran : RoundSums) (reason : StopReason) (outcome : PlanOutcome) (listed marks new_marks : List ℕ)
    → (before : IsUnderWay pages touches drawn s now listed marks)
    → HasRunTo pages touches drawn s before.coming ran new_marks
    → after_round s ran.dirtied (ran.to - now.step.from) (now.step.done + 1) ≡ stops reason
    → outcome ≡ outcome_with (now.step.done + 1) reason ran.to (duration_of ran.dirtied s.max)
    ((now.total + ran.sent) + ran.dirtied)
    → IsOutcome (length drawn) (redrawn_touches drawn touches) s outcome
comes_to pages touches drawn s now ran reason outcome listed marks new_marks before r after is =
    let round = r.round in
    let all = redrawn_touches drawn touches in
    let rounds = before.rounds ++ round ∷ [] in
    let told = sym (same_after pages touches drawn s now before.coming ran listed marks new_marks before.at r)
    ∙ after in
    let plan = plan_with rounds reason round.to r.dirtied (duration_of (length r.dirtied) s.max) in
    let count : now.step.done + 1 ≡ length rounds = omega (arith, length_push before.rounds round, before.count) in
    let total : (now.total + ran.sent) + ran.dirtied ≡ total_of plan =
    omega (arith, sent_push before.rounds round, before.total, r.sent_is, r.dirtied_is) in
    record {
      plan = plan;
      is_plan = follows_end (length drawn) all s before.coming before.rounds rounds round r.dirtied reason plan r.run
          told refl refl before.follows;
      outcome_is = is
          ∙ (λ i. outcome_with (count i) reason (r.to_is i) (duration_of (r.dirtied_is i) s.max) (total i));
    }

-- a duration of few pages is short, at any rate
pub short_duration : (pages rate : ℕ) → pages ≤ 65_536 → 1 ≤ rate → duration_of pages rate ≤ 65_536_000
short_duration pages rate few some =
    let whole = 1_000 * pages / rate in
    let most : whole * 1 ≤ whole * rate = mul-le-mul_left whole some in
    omega (
      arith,
      few,
      most,
      div-add-mod (1_000 * pages) rate,
      min-le_left 1 (1_000 * pages % rate),
      min-le_right 1 (1_000 * pages % rate),
    )
