-- The planned rounds of a pre-copy migration. After Clark and others, "Live Migration of Virtual Machines" (2005),
-- section 4: the first round sends all pages, and each later one those that were dirtied during the round before. After
-- their section 5.4, a page that is dirtied again while a round goes on need not be sent in it. Ticks, roundings and
-- the ascending order of a round's scan are this project's own.
use Rattle.std.specs.Prelude.{◌≡◌, ℕ, ◌+◌, ◌-◌, ◌*◌, ◌/◌, ◌&&◌, nat_lt, nat_le, not, Bool, List, [], ◌∷◌, length}
use Rattle.std.specs.Prelude.{Option, None, Some}
use Rattle.std.specs.List.{count_by, filter, range_with_len, sum_by}
use Rattle.migration_model.specs.Touches.{GuestTouch, is_written, pages_written}
use Rattle.migration_model.specs.Rates.{MigrationSettings, StopReason, AfterRound, goes_on, stops, after_round}
use Rattle.migration_model.specs.Rates.{duration_of}

-- A round from a tick on and before another, at a rate: its pages, those of them that are sent, and how many pages are
-- dirtied meanwhile. Pages are in ascending order.
pub record PlannedRound : Type 0 where
  pub from : ℕ
  pub to : ℕ
  pub rate : ℕ
  pub pages : List ℕ
  pub sent : List ℕ
  pub dirtied : ℕ

-- the rounds, why they end, the tick at which the guest stops, the pages sent then, and how many ticks that takes
pub record MigrationPlan : Type 0 where
  pub rounds : List PlannedRound
  pub reason : StopReason
  pub stop : ℕ
  pub last : List ℕ
  pub down : ℕ

abbrev pub plan_with : List PlannedRound → StopReason → ℕ → List ℕ → ℕ → MigrationPlan
plan_with rounds reason stop last down =
    record { rounds = rounds; reason = reason; stop = stop; last = last; down = down }

-- how many pages a plan sends, over its rounds and after the stop
abbrev pub total_of : MigrationPlan → ℕ
total_of plan = sum_by (λ round. length round.sent) plan.rounds + length plan.last

-- how many of these pages are below one
abbrev pub pages_below : ℕ → List ℕ → ℕ
pages_below page pages = count_by (λ other. nat_lt other page) pages

-- The pages of a round that are sent, of all of its pages. If skipping is on, a page is among them exactly when it is
-- not written in the ticks that the pages below it take, rounded down. If skipping is off, all are sent.
abbrev pub IsSent : Bool → List GuestTouch → ℕ → ℕ → List ℕ → List ℕ → Type 0
IsSent skip touches from rate pages sent =
    sent ≡ filter (λ page. not (skip && is_written touches from (from + 1_000 * pages_below page sent / rate) page))
    pages

-- the state of a migration: how many rounds are done, and the first tick, the rate and the pages of the next round
pub record NextRound : Type 0 where
  pub done : ℕ
  pub from : ℕ
  pub rate : ℕ
  pub pages : List ℕ

-- The pages that a destination lacks at a tick: all, or, if it begins with the memory before a base, those written
-- since. The base is this project's own.
abbrev pub pages_lacking : ℕ → List GuestTouch → Option ℕ → ℕ → List ℕ
pages_lacking pages touches None tick = range_with_len 0 pages
pages_lacking pages touches (Some base) tick = pages_written pages touches base tick

-- the first round has the pages that the destination lacks, and the least rate
abbrev pub first_round : ℕ → List GuestTouch → MigrationSettings → NextRound
first_round pages touches s =
    record { done = 0; from = s.start; rate = s.min; pages = pages_lacking pages touches s.base s.start }

-- the round after one, at this rate: it begins where that ends, with the pages dirtied meanwhile
abbrev pub round_after : ℕ → List GuestTouch → NextRound → PlannedRound → ℕ → NextRound
round_after pages touches now round rate =
    record {
      done = now.done + 1;
      from = round.to;
      rate = rate;
      pages = pages_written pages touches round.from round.to;
    }

-- the next round of a guest of `pages` pages; the first one never skips
pub record IsRound (pages : ℕ) (touches : List GuestTouch)
    (s : MigrationSettings) (now : NextRound) (round : PlannedRound) : Type 0 where
  pub from_is : round.from ≡ now.from
  pub rate_is : round.rate ≡ now.rate
  pub pages_are : round.pages ≡ now.pages
  pub sent : IsSent (s.skip && nat_le 1 now.done) touches round.from round.rate round.pages round.sent
  pub to_is : round.to ≡ round.from + duration_of (length round.sent) round.rate
  pub dirtied_is : round.dirtied ≡ length (pages_written pages touches round.from round.to)

-- what is left after the last round: the guest stops where that ends, and the pages dirtied meanwhile go at the
-- greatest rate
pub record IsEnd (pages : ℕ) (touches : List GuestTouch)
    (s : MigrationSettings) (round : PlannedRound) (plan : MigrationPlan) : Type 0 where
  pub stop_is : plan.stop ≡ round.to
  pub last_is : plan.last ≡ pages_written pages touches round.from round.to
  pub down_is : plan.down ≡ duration_of (length plan.last) s.max

-- one thing if another round comes, and another at the stop
abbrev pub InEither : AfterRound → (ℕ → Type 0) → (StopReason → Type 0) → Type 0
InEither (goes_on rate) Next End = Next rate
InEither (stops reason) Next End = End reason

-- These rounds are the next one and all that follow: after each the stop tests say whether there is one more.
abbrev pub AreRounds : ℕ → List GuestTouch → MigrationSettings → NextRound → List PlannedRound → MigrationPlan → Type 0
AreRounds pages touches s now [] plan = ⊥
AreRounds pages touches s now (round ∷ rounds) plan =
    IsRound pages touches s now round
    × InEither (after_round s round.dirtied (round.to - round.from) (now.done + 1))
    (λ rate. AreRounds pages touches s (round_after pages touches now round rate) rounds plan)
    (λ reason. (rounds ≡ []) × (plan.reason ≡ reason) × IsEnd pages touches s round plan)

-- the plan of a guest of `pages` pages with these touches
abbrev pub IsPlan : ℕ → List GuestTouch → MigrationSettings → MigrationPlan → Type 0
IsPlan pages touches s plan = AreRounds pages touches s (first_round pages touches s) plan.rounds plan
