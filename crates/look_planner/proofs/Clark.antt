-- Clark's plan at one rate is the plan of a hypervisor that asks only when all of a list is sent.
use Rattle.std.proofs.Common.{◌≡◌, ℕ, ◌+◌, ◌-◌, ◌≤◌, max, Bool, true, false, cond, ◌&&◌, ◌||◌, eqb, leb, ltb}
use Rattle.std.proofs.Common.{Option, Some, None, List, [], ◌∷◌, length, map, drop, MatchOption, refl, sym, ap, subst}
use Rattle.std.proofs.Common.{◌∙◌}
use Rattle.std.proofs.Common.{arith}
use Rattle.std.specs.List.{filter, range_with_len}
use Rattle.std.proofs.lemmas.Bool.{le-ltb, ltb-false}
use Rattle.std.proofs.lemmas.List.{drop_all}
use Rattle.migration_model.specs.Looks.{AreLists, IsHypervisorPlan, IsPlanEnd}
use Rattle.migration_model.specs.Looks.{NextList, PlanEnd, end_after, few_left, is_among}
use Rattle.migration_model.specs.Looks.{list_after, looks_done, pages_left, record_ends, sent_in}
use Rattle.migration_model.specs.Rates.{AfterRound, AreSettings, MigrationSettings, StopReason, after_round}
use Rattle.migration_model.specs.Rates.{candidate_of}
use Rattle.migration_model.specs.Rates.{duration_of, few_remain, goes_on, rounds_done, stops, too_fast}
use Rattle.migration_model.specs.Rounds.{AreRounds, InEither, IsEnd, IsPlan, IsRound, IsSent, MigrationPlan, NextRound}
use Rattle.migration_model.specs.Rounds.{PlannedRound, first_round, round_after}
use Rattle.migration_model.specs.Touches.{GuestTouch, is_written, pages_written}
use Rattle.round_planner.proofs.Skims.{sent_is_all}
use Rattle.look_planner.specs.Laws.{end_like, list_like, plan_like, settings_like}
use Rattle.look_planner.proofs.Windows.{sent_whole, whole_look}

-- a round that may come, as a list
abbrev next_like : NextRound → NextList
next_like now = record { done = now.done; from = now.from; pages = now.pages }

-- what is true of a round without skipping, at the greatest rate
record IsWholeRound (pages : ℕ) (touches : List GuestTouch) (s : MigrationSettings) (now : NextRound)
    (round : PlannedRound) : Type 0 where
  pub sent_are : length round.sent ≡ length now.pages
  pub to_is : round.to ≡ now.from + duration_of (length now.pages) s.max
  pub left_are : pages_left pages touches (list_like round) ≡ pages_written pages touches round.from round.to

whole_round : (pages : ℕ) (touches : List GuestTouch) (s : MigrationSettings) (now : NextRound) (round : PlannedRound)
    → s.skip ≡ false → now.rate ≡ s.max → IsRound pages touches s now round
    → IsWholeRound pages touches s now round
whole_round pages touches s now round plain rate is =
    let never : (s.skip && leb 1 now.done) ≡ false = ap (λ b. b && leb 1 now.done) plain in
    let sent : IsSent false touches round.from round.rate round.pages round.sent =
    subst (λ b. IsSent b touches round.from round.rate round.pages round.sent) never is.sent in
    let all : round.sent ≡ round.pages = sent_is_all touches round.from round.rate round.pages round.sent sent in
    let count : length round.sent ≡ length now.pages = ap (λ (l : List ℕ). length l) (all ∙ is.pages_are) in
    let none : drop (length round.sent) round.pages ≡ [] = drop_all (length round.sent) round.pages
    (omega (arith, ap (λ (l : List ℕ). length l) all)) in
    record {
      sent_are = count;
      to_is = is.to_is ∙ (λ i. is.from_is i + duration_of (count i) ((is.rate_is ∙ rate) i));
      left_are = ap (λ (l : List ℕ). filter (λ page. is_among page l || is_written touches round.from round.to page)
          (range_with_len 0 pages)) none;
    }

-- ---- Clark's rounds go on until the stop

later_by : (pages : ℕ) (touches : List GuestTouch) (s : MigrationSettings) (now : NextRound) (round : PlannedRound)
    (rounds : List PlannedRound) (plan : MigrationPlan) (after : AfterRound)
    → InEither after (λ rate. AreRounds pages touches s (round_after pages touches now round rate) rounds plan)
    (λ reason. (rounds ≡ []) × (plan.reason ≡ reason) × IsEnd pages touches s round plan)
    → ((rate : ℕ) → AreRounds pages touches s (round_after pages touches now round rate) rounds plan
    → round.to ≤ plan.stop) → round.to ≤ plan.stop
later_by pages touches s now round rounds plan (goes_on rate) are next = next rate are
later_by pages touches s now round rounds plan (stops reason) are next = omega (arith, are.2.stop_is)

later : (pages : ℕ) (touches : List GuestTouch) (s : MigrationSettings) (now : NextRound) (rounds : List PlannedRound)
    (plan : MigrationPlan) → AreRounds pages touches s now rounds plan → now.from ≤ plan.stop
later pages touches s now [] plan are = absurd are
later pages touches s now (round ∷ rounds) plan are =
    let to = later_by pages touches s now round rounds plan (after_round s round.dirtied (round.to - round.from)
    (now.done + 1)) are.1 (λ rate next. later pages touches s (round_after pages touches now round rate) rounds plan
    next) in
    omega (arith, to, are.0.from_is, are.0.to_is)

stop_later : (pages : ℕ) (touches : List GuestTouch) (s : MigrationSettings) (now : NextRound) (round : PlannedRound)
    (rounds : List PlannedRound) (plan : MigrationPlan) → AreRounds pages touches s now (round ∷ rounds) plan
    → round.to ≤ plan.stop
stop_later pages touches s now round rounds plan are =
    later_by pages touches s now round rounds plan (after_round s round.dirtied (round.to - round.from)
    (now.done + 1)) are.1 (λ rate next. later pages touches s (round_after pages touches now round rate) rounds plan
    next)

-- ---- the tests agree, but for the fast stop

-- what a plan's end comes to, if each test has its answer
abbrev rounds_go : Bool → Bool → Bool → ℕ → AfterRound
rounds_go few fast done rate = cond few (stops few_remain) (cond fast (stops too_fast) (cond done (stops rounds_done)
    (goes_on rate)))

abbrev lists_go : Bool → Bool → Option PlanEnd
lists_go few done = cond few (Some few_left) (cond done (Some looks_done) None)

agree : (few fast done : Bool) (rate : ℕ) (Round : ℕ → Type 0) (Stop : StopReason → Type 0) (List' : Type 0)
    (End : PlanEnd → Type 0) → ((fast ≡ false) → Round rate → List') → ((reason : StopReason) → Stop reason
    → End (end_like reason)) → (Stop too_fast → ⊥) → InEither (rounds_go few fast done rate) Round Stop
    → MatchOption (lists_go few done) List' End
agree true fast done rate Round Stop List' End on off never is = off few_remain is
agree false true done rate Round Stop List' End on off never is = absurd (never is)
agree false false true rate Round Stop List' End on off never is = off rounds_done is
agree false false false rate Round Stop List' End on off never is = on refl is

like : (pages : ℕ) (touches : List GuestTouch) (s : MigrationSettings) (end : ℕ) (now : NextRound)
    (rounds : List PlannedRound) (plan : MigrationPlan) → AreSettings s → s.min ≡ s.max → s.skip ≡ false
    → now.rate ≡ s.max → (plan.reason ≡ too_fast → ⊥) → plan.stop ≤ end → AreRounds pages touches s now rounds plan
    → AreLists pages touches (settings_like s end) (next_like now) (map list_like rounds) (plan_like plan)
like pages touches s end now [] plan in_range one plain rate slow stop are = absurd are
like pages touches s end now (round ∷ rounds) plan in_range one plain rate slow stop are =
    let t = settings_like s end in
    let list = list_like round in
    let whole = whole_round pages touches s now round plain rate are.0 in
    let ticks = duration_of (length now.pages) s.max in
    let some : 1 ≤ s.max = omega (arith, in_range.min_low, in_range.max_low) in
    let to_stop = stop_later pages touches s now round rounds plan are in
    let candidate = candidate_of s round.dirtied (round.to - round.from) in
    let Next : Type 0 = AreLists pages touches t (list_after pages touches (next_like now) list) (map list_like rounds)
    (plan_like plan) in
    let End : PlanEnd → Type 0 = λ why. (map list_like rounds ≡ [])
    × IsPlanEnd pages touches t list why (plan_like plan) in
    let on : (ltb s.max candidate ≡ false)
    → AreRounds pages touches s (round_after pages touches now round (max candidate s.min)) rounds plan → Next =
    λ calm rest.
    let same : max candidate s.min ≡ s.max = omega (arith, one, ltb-false s.max candidate calm) in
    let next = like pages touches s end (round_after pages touches now round (max candidate s.min)) rounds plan in_range
    one plain same slow stop rest in
    subst (λ (l : List ℕ). AreLists pages touches t (record { done = now.done + 1; from = round.to; pages = l })
    (map list_like rounds) (plan_like plan)) (sym whole.left_are) next in
    let off : (reason : StopReason) → (rounds ≡ []) × (plan.reason ≡ reason) × IsEnd pages touches s round plan
    → End (end_like reason) = λ reason is. (
      ap (map list_like) is.0,
      record {
        end_is = ap end_like is.1;
        stop_is = is.2.stop_is;
        last_are = is.2.last_is ∙ sym whole.left_are;
        down_is = is.2.down_is;
      },
    ) in
    let late : ltb end (now.from + ticks) ≡ false = le-ltb end (now.from + ticks)
    (omega (arith, whole.to_is, to_stop, stop)) in
    let left : length (pages_left pages touches list) ≡ round.dirtied = ap (λ (l : List ℕ). length l) whole.left_are
    ∙ sym are.0.dirtied_is in
    let test : end_after t (now.from + ticks) (length (pages_left pages touches list)) (now.done + 1)
    ≡ lists_go (ltb round.dirtied s.threshold) (eqb (now.done + 1) s.rounds) =
    λ i. cond (late i) (Some record_ends) (lists_go (ltb (left i) s.threshold) (eqb (now.done + 1) s.rounds)) in
    let either : MatchOption (lists_go (ltb round.dirtied s.threshold) (eqb (now.done + 1) s.rounds)) Next End =
    agree (ltb round.dirtied s.threshold) (ltb s.max candidate) (eqb (now.done + 1) s.rounds) (max candidate s.min)
    (λ r. AreRounds pages touches s (round_after pages touches now round r) rounds plan)
    (λ reason. (rounds ≡ []) × (plan.reason ≡ reason) × IsEnd pages touches s round plan) Next End on off
    (λ fast. slow fast.1) are.1 in (
      ticks,
      whole_look t (length now.pages) ticks refl some in_range.threshold_low refl,
      record {
        from_is = are.0.from_is;
        to_is = omega (arith, whole.to_is, to_stop, stop);
        pages_are = are.0.pages_are;
        sent_is = whole.sent_are ∙ sym (sent_whole (length now.pages) s.max some)
            ∙ ap (λ n. sent_in s.max (length now.pages) n) (omega (arith, whole.to_is));
      },
      subst (λ (o : Option PlanEnd). MatchOption o Next End) (sym test) either,
    )

pub clark_lem : (pages end : ℕ) (touches : List GuestTouch) (s : MigrationSettings) (plan : MigrationPlan)
    → AreSettings s → s.min ≡ s.max → s.skip ≡ false → IsPlan pages touches s plan
    → (plan.reason ≡ too_fast → ⊥) → plan.stop ≤ end
    → IsHypervisorPlan pages touches (settings_like s end) (plan_like plan)
clark_lem pages end touches s plan in_range one plain is slow stop =
    like pages touches s end (first_round pages touches s) plan.rounds plan in_range one plain one slow stop is
