-- Rounds that plans of one trace share.
use Rattle.std.specs.Prelude.{◌≡◌, ◌≤◌, ◌&&◌, nat_le, ℕ, List, Option, IfSome}
use Rattle.std.specs.List.{All}
use Rattle.migration_model.specs.Rates.{AreSettings, MigrationSettings}
use Rattle.migration_model.specs.Rounds.{NextRound, PlannedRound, pages_lacking}
use Rattle.migration_model.specs.Sweeps.{IsOutcome}
use Rattle.migration_model.specs.Touches.{GuestTouch}
use Rattle.round_planner.specs.Indexing.{RanTo}
use Rattle.round_planner.specs.Ways.{AreDone}
use Rattle.round_planner.specs.declared.known.Ahead.{Ahead}
use Rattle.round_planner.specs.declared.known.Followed.{Followed}
use Rattle.round_planner.specs.declared.known.Followed.TheVariants.{Round, Stop}
use Rattle.round_planner.specs.declared.known.KnownRound.{KnownRound}
use Rattle.round_planner.specs.declared.known.RoundStart.{RoundStart}
use Rattle.round_planner.specs.declared.numbers.RoundNumbers.{RoundNumbers}
use Rattle.round_planner.specs.declared.numbers.RoundSums.{RoundSums}

-- how a round begins
abbrev pub start_of : MigrationSettings → RoundNumbers → Option ℕ → RoundStart
start_of s now since =
    record { since = since; from = now.step.from; rate = now.step.rate; skip = s.skip && nat_le 1 now.step.done }

-- what a known round did
abbrev pub sums_of : KnownRound → RoundSums
sums_of round = record { sent = round.sent; to = round.to; next = round.next; dirtied = round.dirtied }

-- a round that may come under these settings begins so
pub record BeginsSo (pages : ℕ) (touches : List GuestTouch)
    (s : MigrationSettings) (coming : NextRound) (start : RoundStart) : Type 0 where
  pub pages_are : coming.pages ≡ pages_lacking pages touches start.since start.from
  pub from_is : coming.from ≡ start.from
  pub rate_is : coming.rate ≡ start.rate
  pub skip_is : (s.skip && nat_le 1 coming.done) ≡ start.skip

-- each round that begins so does this
abbrev pub RunsSo : ℕ → List GuestTouch → RoundStart → RoundSums → Type 0
RunsSo pages touches start ran = (s : MigrationSettings) (coming : NextRound)
    → BeginsSo pages touches s coming start → RanTo pages touches s coming ran

-- what the slots hold are rounds of a guest of `pages` pages with these touches
abbrev pub AreKnown : ℕ → List GuestTouch → List (Option KnownRound) → Type 0
AreKnown pages touches known = All (λ slot. IfSome slot (λ round. RunsSo pages touches round.start (sums_of round)))
    known

-- what the planner of one trace remembers
pub record PlannerState : Type 0 where
  pub pages : ℕ
  pub known : List (Option KnownRound)

-- the planner is for a guest of `pages` pages with these touches
pub record IsPlannerFor (pages : ℕ) (touches : List GuestTouch) (planner : PlannerState) : Type 0 where
  pub pages_are : planner.pages ≡ pages
  pub known : AreKnown pages touches planner.known

-- a plan goes on with this round, and it is known since when its pages were written
pub record IsAhead (pages : ℕ) (touches : List GuestTouch) (s : MigrationSettings) (ahead : Ahead) : Type 0 where
  pub coming : NextRound
  pub rounds : List PlannedRound
  pub way : AreDone pages touches s ahead.numbers coming rounds
  pub pages_are : coming.pages ≡ pages_lacking pages touches ahead.since coming.from
  pub order : IfSome ahead.since (λ tick. tick ≤ coming.from)
  pub in_range : AreSettings s

-- known rounds lead to a round that is to be run, or to the end of the plan
abbrev pub IsFollowed : ℕ → List GuestTouch → MigrationSettings → Followed → Type 0
IsFollowed pages touches s (Round ahead) = IsAhead pages touches s ahead
IsFollowed pages touches s (Stop outcome) = IsOutcome pages touches s outcome
