-- A plan with the lists of its rounds: what holds between its rounds, and what it is at its end.
use Rattle.std.proofs.Common.{◌≡◌, ℕ, ◌+◌, ◌-◌, ◌≤◌, ◌&&◌, leb, List, [], ◌∷◌, ◌++◌, length, take}
use Rattle.std.proofs.Common.{replicate, sym, ap, ◌∙◌, arith}
use Rattle.std.specs.List.{All}
use Rattle.std.proofs.lemmas.List.{length_push}
use Rattle.std.proofs.lemmas.List.Elements.{All-push}
use Rattle.migration_model.specs.Rates.{MigrationSettings, AreSettings, StopReason, stops, after_round, duration_of}
use Rattle.migration_model.specs.Rounds.{PlannedRound, NextRound, IsPlan, IsSent, first_round, pages_lacking, plan_with}
use Rattle.migration_model.specs.Rounds.{round_after}
use Rattle.migration_model.specs.Touches.{GuestTouch}
use Rattle.page_bitmap.specs.Listing.{word_count}
use Rattle.round_planner.specs.Indexing.{IsFirst, StandsAt, RanTo, IsMarkedAt, IsTurned}
use Rattle.round_planner.specs.Sizes.{IsSmallPlan}
use Rattle.round_planner.specs.Steps.{IsAfter, numbers_after}
use Rattle.round_planner.specs.declared.step.After.TheVariants.{Go}
use Rattle.round_planner.specs.declared.step.Step.{Step}
use Rattle.round_planner.specs.declared.numbers.RoundSums.{RoundSums}
use Rattle.round_planner.specs.declared.numbers.RoundNumbers.{RoundNumbers}
use Rattle.round_planner.specs.Ways.{AreDone}
use Rattle.round_planner.proofs.Outcomes.{starts, goes_further, same_after}
use Rattle.round_planner.proofs.PageLists.{list_few, list_rises}
use Rattle.round_planner.proofs.Plans.{follows_end, one_sent, written_list}
use Rattle.round_planner.proofs.MarkedWays.{listed_next, marked_first, marked_next}

-- the rounds so far, with marks for the next one and the list of its pages
pub record IsListedWay (pages : ℕ) (touches : List GuestTouch)
    (s : MigrationSettings) (now : RoundNumbers) (marks room : List ℕ) (rounds : List PlannedRound) : Type 0 where
  pub coming : NextRound
  pub way : AreDone pages touches s now coming rounds
  pub marked : IsMarkedAt pages touches s coming now marks room
  pub list : coming.pages ≡ take now.listed room
  pub each : All (λ (round : PlannedRound). length round.sent ≤ 65_536) rounds

pub lists_start : (pages : ℕ) (touches : List GuestTouch) (s : MigrationSettings) (now : RoundNumbers)
    (marks room : List ℕ) (rounds : List PlannedRound)
    → IsFirst pages touches s now → marks ≡ replicate (word_count pages) 0 → length room ≡ pages
    → take now.listed room ≡ pages_lacking pages touches s.base s.start → rounds ≡ []
    → IsListedWay pages touches s now marks room rounds
lists_start pages touches s now marks room rounds first fresh len list none = record {
  coming = first_round pages touches s;
  way = rw none (starts pages touches s now first);
  marked = marked_first pages touches s now marks room first fresh len;
  list = sym list;
  each = λ k d few. absurd (omega (arith, few, ap length none));
}

-- the round that ran, with the lists that were made of it
abbrev pub listed_round : RoundNumbers → RoundSums → List ℕ → List ℕ → PlannedRound
listed_round now ran pages sent =
    record {
      from = now.step.from;
      to = ran.to;
      rate = now.step.rate;
      pages = pages;
      sent = sent;
      dirtied = ran.dirtied;
    }

pub listed_is : (pages : ℕ) (touches : List GuestTouch) (s : MigrationSettings) (now : RoundNumbers)
    (coming : NextRound) (ran : RoundSums) (list sent : List ℕ) → StandsAt pages touches s coming now
    → (r : RanTo pages touches s coming ran) → list ≡ coming.pages
    → IsSent (s.skip && leb 1 coming.done) touches coming.from coming.rate coming.pages sent
    → listed_round now ran list sent ≡ r.round
listed_is pages touches s now coming ran list sent at r list_is is =
    let round = r.run.is_round in
    let from : now.step.from ≡ r.round.from = at.from_is ∙ sym round.from_is in
    let rate : now.step.rate ≡ r.round.rate = at.rate_is ∙ sym round.rate_is in
    let all : list ≡ r.round.pages = list_is ∙ sym round.pages_are in
    let theirs : IsSent (s.skip && leb 1 coming.done) touches coming.from coming.rate coming.pages r.round.sent =
    rw (round.from_is, round.rate_is, round.pages_are) at round.sent in
    let same : sent ≡ r.round.sent =
    one_sent (s.skip && leb 1 coming.done) touches coming.from coming.rate coming.pages sent r.round.sent
    (list_rises pages coming.pages at.can.list) is theirs in
    let dirtied : ran.dirtied ≡ r.round.dirtied = r.dirtied_is ∙ ap length r.run.dirtied_are ∙ sym round.dirtied_is in
    λ i. record {
      from = from i;
      to = r.to_is i;
      rate = rate i;
      pages = all i;
      sent = same i;
      dirtied = dirtied i;
    }

pub lists_go_on : (pages : ℕ) (touches : List GuestTouch) (s : MigrationSettings) (now : RoundNumbers) (ran : RoundSums)
    (step : Step) (marks room new_marks new_room : List ℕ) (rounds new : List PlannedRound) (round : PlannedRound)
    → AreSettings s → (before : IsListedWay pages touches s now marks room rounds)
    → (r : RanTo pages touches s before.coming ran) → IsAfter s now.step ran.to ran.dirtied (Go step)
    → IsTurned pages touches now.step.from ran.to ran.dirtied ran.next new_marks new_room → length new_room ≡ pages
    → round ≡ r.round → new ≡ rounds ++ round ∷ []
    → IsListedWay pages touches s (numbers_after now ran step) new_marks new_room new
lists_go_on pages touches s now ran step marks room new_marks new_room rounds new round are before r after turned len is
    pushed =
    let coming = before.coming in
    let next = goes_further pages touches s now coming rounds ran step are before.way r after in
    let all : new ≡ rounds ++ r.round ∷ [] = pushed ∙ ap (λ (last : PlannedRound). rounds ++ last ∷ []) is in
    record {
      coming = round_after pages touches coming r.round step.rate;
      way = rw all next;
      marked = marked_next pages touches s now coming ran step new_marks new_room before.way.at r next.at turned len;
      list = listed_next pages touches s now coming ran new_marks new_room before.way.at r turned;
      each = rw all (All-push (λ (round : PlannedRound). length round.sent ≤ 65_536) rounds r.round before.each
          r.run.few);
    }

-- the plan of these rounds, and how large it is
pub record IsWhole (pages : ℕ) (touches : List GuestTouch) (s : MigrationSettings) (rounds : List PlannedRound)
    (reason : StopReason) (stop : ℕ) (last : List ℕ) (down : ℕ) : Type 0 where
  pub is_plan : IsPlan pages touches s (plan_with rounds reason stop last down)
  pub small : IsSmallPlan rounds last

pub lists_end : (pages : ℕ) (touches : List GuestTouch) (s : MigrationSettings) (now : RoundNumbers) (ran : RoundSums)
    (reason : StopReason) (marks room new_marks new_room : List ℕ) (rounds new : List PlannedRound)
    (round : PlannedRound) (last : List ℕ) → (before : IsListedWay pages touches s now marks room rounds)
    → (r : RanTo pages touches s before.coming ran)
    → after_round s ran.dirtied (ran.to - now.step.from) (now.step.done + 1) ≡ stops reason
    → IsTurned pages touches now.step.from ran.to ran.dirtied ran.next new_marks new_room
    → round ≡ r.round → new ≡ rounds ++ round ∷ [] → last ≡ take ran.dirtied new_room
    → IsWhole pages touches s new reason ran.to last (duration_of ran.dirtied s.max)
lists_end pages touches s now ran reason marks room new_marks new_room rounds new round last before r after turned is
    pushed last_is =
    let coming = before.coming in
    let all : new ≡ rounds ++ r.round ∷ [] = pushed ∙ ap (λ (last : PlannedRound). rounds ++ last ∷ []) is in
    let told = sym (same_after pages touches s now coming ran before.way.at r) ∙ after in
    let rest : last ≡ r.dirtied = last_is ∙ sym (listed_next pages touches s now coming ran new_marks new_room
    before.way.at r turned) ∙ sym r.run.dirtied_are in
    record {
      is_plan = follows_end pages touches s coming rounds new r.round r.dirtied reason _ r.run told all
          (λ i. plan_with new reason (r.to_is i) (rest i) (duration_of (r.dirtied_is i) s.max)) before.way.follows;
      small = record {
        few = omega (
          arith,
          ap length all,
          length_push rounds r.round,
          before.way.count,
          before.way.at.done_is,
          before.way.at.can.done_low,
          before.way.at.can.rounds_few,
        );
        each = rw all (All-push (λ (round : PlannedRound). length round.sent ≤ 65_536) rounds r.round before.each
            r.run.few);
        rest = list_few pages last (written_list pages touches r.round.from r.round.to last r.run.small (rest
            ∙ r.run.dirtied_are));
      };
    }
