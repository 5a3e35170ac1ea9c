-- The plan of redrawn pages on its way. No contract of a public call cites it.
use Rattle.std.specs.Prelude.{◌≡◌, ℕ, ◌+◌, ◌*◌, ◌/◌, ◌&&◌, nat_le, true, List, length}
use Rattle.migration_model.specs.Rates.{MigrationSettings}
use Rattle.migration_model.specs.Rounds.{NextRound, PlannedRound, IsSent}
use Rattle.migration_model.specs.Touches.{GuestTouch}
use Rattle.look_planner.specs.DrawnPages.{places_in, redrawn_touches}
use Rattle.round_planner.specs.declared.marked.SentPages.{SentPages}
use Rattle.round_planner.specs.declared.numbers.RoundNumbers.{RoundNumbers}
use Rattle.round_planner.specs.declared.numbers.RoundSums.{RoundSums}
use Rattle.round_planner.specs.Scanning.{CanCome, HasRun, IsScan, IsScanWithin}

-- A round that may come, by its numbers and the bitmap of its pages. The walk is at its first tick, and no page is
-- marked.
pub record StandsAt (pages : ℕ) (touches : List GuestTouch) (drawn : List ℕ)
    (s : MigrationSettings) (coming : NextRound) (now : RoundNumbers) (listed marks : List ℕ) : Type 0 where
  pub can : CanCome (length drawn) s coming
  pub done_is : now.step.done ≡ coming.done
  pub from_is : now.step.from ≡ coming.from
  pub rate_is : now.step.rate ≡ coming.rate
  pub listed_is : now.listed ≡ length coming.pages
  pub pages_are : coming.pages ≡ places_in drawn listed
  pub scan : IsScan pages touches coming.from coming.from now.next marks

-- some round that stands so
pub record IsStanding (pages : ℕ) (touches : List GuestTouch) (drawn : List ℕ)
    (s : MigrationSettings) (now : RoundNumbers) (listed marks : List ℕ) : Type 0 where
  pub coming : NextRound
  pub at : StandsAt pages touches drawn s coming now listed marks

-- `count` of a round's pages are sent if pages may be skipped
pub record CountsSent (touches : List GuestTouch) (from rate : ℕ) (pages : List ℕ) (count : ℕ) : Type 0 where
  pub list : List ℕ
  pub sent : IsSent true touches from rate pages list
  pub count_is : count ≡ length list

-- a round has sent so many of its pages, and the walk is not past their ticks
pub record HasSent (pages : ℕ) (touches : List GuestTouch) (drawn : List ℕ)
    (s : MigrationSettings) (coming : NextRound) (sent : SentPages) (marks : List ℕ) : Type 0 where
  pub list : List ℕ
  pub is_sent : IsSent (s.skip && nat_le 1 coming.done) (redrawn_touches drawn touches) coming.from coming.rate
      coming.pages list
  pub count_is : sent.count ≡ length list
  pub within : IsScanWithin pages touches coming.from (coming.from + 1_000 * sent.count / coming.rate) sent.next marks

-- the round that came, by its numbers; the walk is at its end
pub record HasRunTo (pages : ℕ) (touches : List GuestTouch) (drawn : List ℕ)
    (s : MigrationSettings) (coming : NextRound) (ran : RoundSums) (marks : List ℕ) : Type 0 where
  pub round : PlannedRound
  pub dirtied : List ℕ
  pub run : HasRun (length drawn) (redrawn_touches drawn touches) s coming round dirtied
  pub to_is : ran.to ≡ round.to
  pub sent_is : ran.sent ≡ length round.sent
  pub dirtied_is : ran.dirtied ≡ length dirtied
  pub scan : IsScan pages touches coming.from round.to ran.next marks
