-- A guest has one plan, and the one found round by round is it.
use Rattle.std.proofs.Common.{◌≡◌, ℕ, ◌+◌, ◌-◌, ◌*◌, ◌/◌, ◌≤◌, Bool, true, false, cond, not, ◌&&◌, leb, Option, Some}
use Rattle.std.proofs.Common.{None, List, [], ◌∷◌, ◌++◌, length, refl, sym, ap, subst, ◌∙◌, append_assoc, inl, inr}
use Rattle.std.proofs.Common.{arith}
use Rattle.std.specs.List.{filter, range_with_len}
use Rattle.std.proofs.Math.Nat.{div-le_of_le-mul, mul-le-mul_left, le-max_right}
use Rattle.std.proofs.lemmas.Bool.{cases_lt, eqb-false}
use Rattle.migration_model.specs.Rates.{MigrationSettings, AreSettings, StopReason, few_remain, too_fast, rounds_done}
use Rattle.migration_model.specs.Rates.{AfterRound, goes_on, stops, after_round, candidate_of, duration_of}
use Rattle.migration_model.specs.Touches.{GuestTouch, is_written, pages_written}
use Rattle.migration_model.specs.Rounds.{PlannedRound, MigrationPlan, plan_with, NextRound, pages_below, pages_lacking}
use Rattle.migration_model.specs.Rounds.{first_round, round_after, IsSent, IsRound, IsEnd, InEither, AreRounds, IsPlan}
use Rattle.round_planner.specs.Ways.{Follows}
use Rattle.round_planner.specs.Scanning.{CanCome, HasRun, IsPageList}
use Rattle.round_planner.proofs.Skims.{Rises, Rises-pages, Rises-range, sent_is_skim, filter_all, sent_is_all}
use Rattle.round_planner.proofs.Skims.{never_written}
use Rattle.page_bitmap.proofs.Listed.{few_kept, none_kept}
use Rattle.round_planner.proofs.PageLists.{list_few}

-- the pages sent are one list
pub one_sent : (skip : Bool) (touches : List GuestTouch) (from rate : ℕ) (pages a b : List ℕ) → Rises 0 pages
    → IsSent skip touches from rate pages a
    → IsSent skip touches from rate pages b → a ≡ b
one_sent true touches from rate pages a b rises is_a is_b = sent_is_skim touches from rate pages a rises is_a
    ∙ sym (sent_is_skim touches from rate pages b rises is_b)
one_sent false touches from rate pages a b rises is_a is_b = sent_is_all touches from rate pages a is_a
    ∙ sym (sent_is_all touches from rate pages b is_b)

one_round : (pages : ℕ) (touches : List GuestTouch) (s : MigrationSettings) (now : NextRound) (a b : PlannedRound)
    → Rises 0 now.pages
    → IsRound pages touches s now a → IsRound pages touches s now b → a ≡ b
one_round pages touches s now a b rises is_a is_b =
    let from : a.from ≡ b.from = is_a.from_is ∙ sym is_b.from_is in
    let rate : a.rate ≡ b.rate = is_a.rate_is ∙ sym is_b.rate_is in
    let list : a.pages ≡ b.pages = is_a.pages_are ∙ sym is_b.pages_are in
    let skip = s.skip && leb 1 now.done in
    let sent_b : IsSent skip touches a.from a.rate a.pages b.sent = rw (from, rate, list) is_b.sent in
    let rising : Rises 0 a.pages = rw is_a.pages_are rises in
    let sent : a.sent ≡ b.sent = one_sent skip touches a.from a.rate a.pages a.sent b.sent rising is_a.sent sent_b in
    let to : a.to ≡ b.to = is_a.to_is ∙ (λ i. from i + duration_of (length (sent i)) (rate i)) ∙ sym is_b.to_is in
    let dirtied : a.dirtied ≡ b.dirtied = is_a.dirtied_is ∙ (λ i. length (pages_written pages touches (from i) (to i)))
    ∙ sym is_b.dirtied_is in
    λ i. record { from = from i; to = to i; rate = rate i; pages = list i; sent = sent i; dirtied = dirtied i }

-- two plans that have the same rounds and the same end
record AreSame (ps qs : List PlannedRound) (p q : MigrationPlan) : Type 0 where
  pub rounds : ps ≡ qs
  pub reason : p.reason ≡ q.reason
  pub stop : p.stop ≡ q.stop
  pub last : p.last ≡ q.last
  pub down : p.down ≡ q.down

same_end : (pages : ℕ) (touches : List GuestTouch) (s : MigrationSettings) (round : PlannedRound) (reason : StopReason)
    (ps qs : List PlannedRound) (p q : MigrationPlan)
    → (ps ≡ []) × (p.reason ≡ reason) × IsEnd pages touches s round p
    → (qs ≡ []) × (q.reason ≡ reason) × IsEnd pages touches s round q
    → AreSame (round ∷ ps) (round ∷ qs) p q
same_end pages touches s round reason ps qs p q end_p end_q =
    let last : p.last ≡ q.last = end_p.2.last_is ∙ sym end_q.2.last_is in
    record {
      rounds = ap (λ (l : List PlannedRound). round ∷ l) (end_p.0 ∙ sym end_q.0);
      reason = end_p.1 ∙ sym end_q.1;
      stop = end_p.2.stop_is ∙ sym end_q.2.stop_is;
      last = last;
      down = end_p.2.down_is ∙ ap (λ (l : List ℕ). duration_of (length l) s.max) last ∙ sym end_q.2.down_is;
    }

same_after : (pages : ℕ) (touches : List GuestTouch) (s : MigrationSettings) (now : NextRound) (round : PlannedRound)
    (ps qs : List PlannedRound) (p q : MigrationPlan)
    → ((next : NextRound) → Rises 0 next.pages → AreRounds pages touches s next ps p
    → AreRounds pages touches s next qs q → AreSame ps qs p q)
    → (after : AfterRound)
    → InEither after (λ rate. AreRounds pages touches s (round_after pages touches now round rate) ps p)
    (λ reason. (ps ≡ []) × (p.reason ≡ reason) × IsEnd pages touches s round p)
    → InEither after (λ rate. AreRounds pages touches s (round_after pages touches now round rate) qs q)
    (λ reason. (qs ≡ []) × (q.reason ≡ reason) × IsEnd pages touches s round q)
    → AreSame (round ∷ ps) (round ∷ qs) p q
same_after pages touches s now round ps qs p q rest (goes_on rate) is_p is_q =
    let tail = rest (round_after pages touches now round rate)
    (Rises-pages (is_written touches round.from round.to) pages) is_p is_q in
    record {
      rounds = ap (λ (l : List PlannedRound). round ∷ l) tail.rounds;
      reason = tail.reason;
      stop = tail.stop;
      last = tail.last;
      down = tail.down;
    }
same_after pages touches s now round ps qs p q rest (stops reason) is_p is_q =
    same_end pages touches s round reason ps qs p q is_p is_q

same_rounds : (pages : ℕ) (touches : List GuestTouch) (s : MigrationSettings) (now : NextRound)
    (ps qs : List PlannedRound) (p q : MigrationPlan)
    → Rises 0 now.pages → AreRounds pages touches s now ps p → AreRounds pages touches s now qs q → AreSame ps qs p q
same_rounds pages touches s now [] qs p q rises is_p is_q = absurd is_p
same_rounds pages touches s now (a ∷ ps) [] p q rises is_p is_q = absurd is_q
same_rounds pages touches s now (a ∷ ps) (b ∷ qs) p q rises is_p is_q =
    let same : a ≡ b = one_round pages touches s now a b rises is_p.0 is_q.0 in
    let rest : (next : NextRound) → Rises 0 next.pages → AreRounds pages touches s next ps p
    → AreRounds pages touches s next qs q → AreSame ps qs p q =
    λ next rising next_p next_q. same_rounds pages touches s next ps qs p q rising next_p next_q in
    let C : PlannedRound → Type 0 = λ r. AreRounds pages touches s now (r ∷ qs) q in
    let is_q_a : AreRounds pages touches s now (a ∷ qs) q = subst C (sym same) is_q in
    let found : AreSame (a ∷ ps) (a ∷ qs) p q = same_after pages touches s now a ps qs p q rest
    (after_round s a.dirtied (a.to - a.from) (now.done + 1)) is_p.1 is_q_a.1 in
    subst (λ r. AreSame (a ∷ ps) (r ∷ qs) p q) same found

lacking_rises : (pages : ℕ) (touches : List GuestTouch) (base : Option ℕ) (tick : ℕ)
    → Rises 0 (pages_lacking pages touches base tick)
lacking_rises pages touches None tick = Rises-range 0 pages
lacking_rises pages touches (Some base) tick = Rises-pages (is_written touches base tick) pages

pub one_plan_lem : (pages : ℕ) (touches : List GuestTouch) (s : MigrationSettings) (p q : MigrationPlan)
    → IsPlan pages touches s p → IsPlan pages touches s q → p ≡ q
one_plan_lem pages touches s p q is_p is_q =
    let same = same_rounds pages touches s (first_round pages touches s) p.rounds q.rounds p q
    (lacking_rises pages touches s.base s.start) is_p is_q in
    λ i. record {
      rounds = same.rounds i;
      reason = same.reason i;
      stop = same.stop i;
      last = same.last i;
      down =
          same.down i;
    }

-- ---- what is found

sent_few : (test : ℕ → Bool) (xs : List ℕ) → length (filter test xs) ≤ length xs
sent_few test [] = omega arith
sent_few test (x ∷ xs) = omega (arith, few_kept (test x) x (filter test xs), sent_few test xs)

-- the scan of a round's last page is over by the round's end
pub scan_in_round : (from rate sent ticks : ℕ) → 1_000 * sent ≤ ticks * rate → from + 1_000 * sent / rate ≤ from + ticks
scan_in_round from rate sent ticks enough = omega (
  arith,
  div-le_of_le-mul rate {m = 1_000 * sent} {n = ticks}
      (omega arith),
)

sent_fits : (pages : ℕ) (touches : List GuestTouch) (s : MigrationSettings) (now : NextRound) (sent : List ℕ)
    → CanCome pages s now
    → IsSent (s.skip && leb 1 now.done) touches now.from now.rate now.pages sent → length sent ≤ 65_536
sent_fits pages touches s now sent ready is =
    let skip = s.skip && leb 1 now.done in
    omega (
      arith,
      ap length is,
      sent_few (λ page. not (skip && is_written touches now.from (now.from + 1_000 * pages_below page sent / now.rate)
          page)) now.pages,
      list_few pages now.pages ready.list,
    )

ticks_few : (sent rate ticks : ℕ) → sent ≤ 65_536 → 1 ≤ rate → ((t : ℕ) → 1_000 * sent ≤ t * rate → ticks ≤ t)
    → ticks ≤ 65_536_000
ticks_few sent rate ticks few some least =
    let much : 65_536_000 ≤ 65_536_000 * rate = omega (arith, mul-le-mul_left 65_536_000 some) in
    least 65_536_000 (omega arith)

nothing_written : (pages : ℕ) (touches : List GuestTouch) (from to : ℕ) → to ≡ from
    → pages_written pages touches from to ≡ []
nothing_written pages touches from to is =
    none_kept (is_written touches from to) 0 pages (λ page low high. never_written touches from to page is)

-- the round that comes, if it sends these pages in so many ticks
abbrev pub round_of : ℕ → List GuestTouch → NextRound → List ℕ → ℕ → PlannedRound
round_of pages touches now sent ticks =
    record {
      from = now.from;
      to = now.from + ticks;
      rate = now.rate;
      pages = now.pages;
      sent = sent;
      dirtied = length (pages_written pages touches now.from (now.from + ticks));
    }

pub ran : (pages : ℕ) (touches : List GuestTouch) (s : MigrationSettings) (now : NextRound) (sent : List ℕ)
    (count rate ticks : ℕ) → CanCome pages s now
    → IsSent (s.skip && leb 1 now.done) touches now.from now.rate now.pages sent → count ≡ length sent
    → rate ≡ now.rate → ticks ≡ duration_of count rate → 1_000 * count ≤ ticks * rate
    → ((t : ℕ) → 1_000 * count ≤ t * rate → ticks ≤ t)
    → HasRun pages touches s now (round_of pages touches now sent ticks)
    (pages_written pages touches now.from (now.from + ticks))
ran pages touches s now sent count rate ticks ready is_sent count_is rate_is ticks_are enough least =
    let few : length sent ≤ 65_536 = sent_fits pages touches s now sent ready is_sent in
    let short : ticks ≤ 65_536_000 = ticks_few count rate ticks (omega (arith, few, count_is))
    (omega (arith, rate_is, ready.rate_low)) least in
    record {
      is_round = record {
        from_is = refl;
        rate_is = refl;
        pages_are = refl;
        sent = is_sent;
        to_is = ap (λ t. now.from + t) (ticks_are ∙ (λ i. duration_of (count_is i) (rate_is i)));
        dirtied_is = refl;
      };
      dirtied_are = refl;
      order = omega arith;
      timed = elim (cases_lt 0 ticks) [
        | inl more ↦ inl (omega (arith, more))
        | inr none ↦ inr (ap length (nothing_written pages touches now.from (now.from + ticks) (omega (arith, none))))
      ];
      short = omega (arith, short);
      few = few;
      small = ready.list.few;
    }

-- ---- from round to round

-- a list of the pages that are written
pub written_list : (pages : ℕ) (touches : List GuestTouch) (from to : ℕ) (list : List ℕ) → pages ≤ 65_536
    → list ≡ pages_written pages touches from to → IsPageList pages list
written_list pages touches from to list few is = record { test = is_written touches from to; few = few; list_is = is }

-- the pages that a destination lacks
lacking_list : (pages : ℕ) (touches : List GuestTouch) (base : Option ℕ) (tick : ℕ) (list : List ℕ) → pages ≤ 65_536
    → list ≡ pages_lacking pages touches base tick → IsPageList pages list
lacking_list pages touches None tick list few is =
    record { test = λ page. true; few = few; list_is = is ∙ sym (filter_all (range_with_len 0 pages)) }
lacking_list pages touches (Some base) tick list few is = written_list pages touches base tick list few is

pub can_start : (pages : ℕ) (touches : List GuestTouch) (s : MigrationSettings) (now : NextRound) → AreSettings s
    → pages ≤ 65_536 → now ≡ first_round pages touches s
    → CanCome pages s now
can_start pages touches s now are few is =
    record {
      list = lacking_list pages touches s.base s.start now.pages few (ap (λ (n : NextRound). n.pages) is);
      rate_low = omega (arith, ap (λ (n : NextRound). n.rate) is, are.min_low);
      from_high = omega (arith, ap (λ (n : NextRound). n.from) is, are.start_high);
      done_low = omega (arith, ap (λ (n : NextRound). n.done) is, are.rounds_low);
      rounds_few = are.rounds_high;
    }

abbrev rate_in : AfterRound → ℕ
rate_in (goes_on rate) = rate
rate_in (stops reason) = 0

-- what holds if another round comes
record GoesOn (s : MigrationSettings) (dirtied done rate : ℕ) : Type 0 where
  pub not_done : done ≡ s.rounds → ⊥
  pub rate_low : s.min ≤ rate

tested : (few fast done : Bool) (x rate : ℕ) → cond few (stops few_remain)
    (cond fast (stops too_fast) (cond done (stops rounds_done) (goes_on x))) ≡ goes_on rate
    → (done ≡ false) × (rate ≡ x)
tested true fast done x rate is = absurd cc
tested false true done x rate is = absurd cc
tested false false true x rate is = absurd cc
tested false false false x rate is = (refl, sym (ap rate_in is))

goes : (s : MigrationSettings) (dirtied ticks done rate : ℕ) → after_round s dirtied ticks done ≡ goes_on rate
    → GoesOn s dirtied done rate
goes s dirtied ticks done rate is =
    let t = tested _ _ _ _ rate is in
    record {
      not_done = eqb-false _ _ t.0;
      rate_low = omega (arith, t.1, le-max_right (candidate_of s dirtied ticks) s.min);
    }

pub can_go_on : (pages : ℕ) (touches : List GuestTouch) (s : MigrationSettings) (now next : NextRound)
    (round : PlannedRound) (dirtied : List ℕ) (ticks rate : ℕ)
    → AreSettings s → CanCome pages s now → HasRun pages touches s now round dirtied
    → after_round s round.dirtied ticks (now.done + 1) ≡ goes_on rate → next ≡ round_after pages touches now round rate
    → CanCome pages s next
can_go_on pages touches s now next round dirtied ticks rate are ready ran after is =
    let g = goes s round.dirtied ticks (now.done + 1) rate after in
    let not_done = g.not_done in
    let list : next.pages ≡ pages_written pages touches round.from round.to = ap (λ (n : NextRound). n.pages) is in
    let done : next.done ≡ now.done + 1 = ap (λ (n : NextRound). n.done) is in
    record {
      list = written_list pages touches round.from round.to next.pages ran.small list;
      rate_low = omega (arith, ap (λ (n : NextRound). n.rate) is, g.rate_low, are.min_low);
      from_high = omega (
        arith,
        ap (λ (n : NextRound). n.from) is,
        ran.short,
        ran.is_round.from_is,
        ready.from_high,
        done,
      );
      done_low = omega (arith, done, not_done, ready.done_low);
      rounds_few = are.rounds_high;
    }

pub follows_start : (pages : ℕ) (touches : List GuestTouch) (s : MigrationSettings) (now : NextRound)
    (rounds : List PlannedRound) → now ≡ first_round pages touches s → rounds ≡ []
    → Follows pages touches s now rounds
follows_start pages touches s now rounds is none rest plan are =
    let C : NextRound → Type 0 = λ n. AreRounds pages touches s n rest plan in
    let D : List PlannedRound → Type 0 = λ rs. AreRounds pages touches s (first_round pages touches s) (rs ++ rest)
    plan in
    subst D (sym none) (subst C is are)

pub follows_more : (pages : ℕ) (touches : List GuestTouch) (s : MigrationSettings) (now next : NextRound)
    (rounds new : List PlannedRound) (round : PlannedRound)
    (dirtied : List ℕ) (rate : ℕ) → HasRun pages touches s now round dirtied
    → after_round s round.dirtied (round.to - round.from) (now.done + 1) ≡ goes_on rate
    → next ≡ round_after pages touches now round rate → new ≡ rounds ++ round ∷ [] → Follows pages touches s now rounds
    → Follows pages touches s next new
follows_more pages touches s now next rounds new round dirtied rate ran after is new_is before rest plan are =
    let C : NextRound → Type 0 = λ n. AreRounds pages touches s n rest plan in
    let Next : ℕ → Type 0 = λ r. AreRounds pages touches s (round_after pages touches now round r) rest plan in
    let End : StopReason → Type 0 = λ reason. (rest ≡ []) × (plan.reason ≡ reason) × IsEnd pages touches s round plan in
    let either : InEither (after_round s round.dirtied (round.to - round.from) (now.done + 1)) Next End =
    subst (λ v. InEither v Next End) (sym after) (subst C is are) in
    let D : List PlannedRound → Type 0 = λ rs. AreRounds pages touches s (first_round pages touches s) rs plan in
    let joined : new ++ rest ≡ rounds ++ (round ∷ rest) = ap (λ (rs : List PlannedRound). rs ++ rest) new_is
    ∙ append_assoc rounds (round ∷ []) rest in
    subst D (sym joined) (before (round ∷ rest) plan (ran.is_round, either))

pub follows_end : (pages : ℕ) (touches : List GuestTouch) (s : MigrationSettings) (now : NextRound)
    (rounds new : List PlannedRound) (round : PlannedRound)
    (dirtied : List ℕ) (reason : StopReason) (plan : MigrationPlan) → HasRun pages touches s now round dirtied
    → after_round s round.dirtied (round.to - round.from) (now.done + 1) ≡ stops reason → new ≡ rounds ++ round ∷ []
    → plan ≡ plan_with new reason round.to dirtied (duration_of (length dirtied) s.max)
    → Follows pages touches s now rounds → IsPlan pages touches s plan
follows_end pages touches s now rounds new round dirtied reason plan ran after new_is is before =
    let last : plan.last ≡ dirtied = ap (λ (p : MigrationPlan). p.last) is in
    let end : IsEnd pages touches s round plan = record {
      stop_is = ap (λ (p : MigrationPlan). p.stop) is;
      last_is = last ∙ ran.dirtied_are;
      down_is = ap (λ (p : MigrationPlan). p.down) is ∙ ap (λ (l : List ℕ). duration_of (length l) s.max) (sym last);
    } in
    let Next : ℕ → Type 0 = λ r. AreRounds pages touches s (round_after pages touches now round r) [] plan in
    let none : List PlannedRound = [] in
    let End : StopReason → Type 0 = λ why. (none ≡ []) × (plan.reason ≡ why) × IsEnd pages touches s round plan in
    let either : InEither (after_round s round.dirtied (round.to - round.from) (now.done + 1)) Next End =
    subst (λ v. InEither v Next End) (sym after) (refl, ap (λ (p : MigrationPlan). p.reason) is, end) in
    let D : List PlannedRound → Type 0 = λ rs. AreRounds pages touches s (first_round pages touches s) rs plan in
    subst D (sym (ap (λ (p : MigrationPlan). p.rounds) is ∙ new_is)) (before (round ∷ []) plan (ran.is_round, either))
