-- The index that plans of one trace share, and a plan that is made of counts. The contracts of the index and of the
-- planner cite only the first part.
use Rattle.std.specs.Prelude.{◌≡◌, ℕ, ◌+◌, ◌*◌, ◌/◌, ◌&&◌, ◌<◌, ◌≤◌, nat_lt, nat_le, not, true, false, List, length}
use Rattle.std.specs.Prelude.{slice_index_or, take}
use Rattle.std.specs.List.Sorted.{IsPartitionPoint}
use Rattle.migration_model.specs.Rates.{AreSettings, MigrationSettings}
use Rattle.migration_model.specs.Rounds.{NextRound, PlannedRound, IsSent, first_round}
use Rattle.migration_model.specs.Touches.{GuestTouch, AreTouches, no_touch, pages_written}
use Rattle.page_bitmap.specs.Listing.{word_count}
use Rattle.round_planner.specs.Scanning.{is_met, CanCome, HasRun, IsScan, IsScanWithin}
use Rattle.round_planner.specs.declared.marked.SentPages.{SentPages}
use Rattle.round_planner.specs.declared.numbers.RoundNumbers.{RoundNumbers}
use Rattle.round_planner.specs.declared.numbers.RoundSums.{RoundSums}

-- `n` touches are before a tick
abbrev pub IsPoint : List GuestTouch → ℕ → ℕ → Type 0
IsPoint touches tick n = IsPartitionPoint (λ touch. nat_lt touch.tick tick ≡ true)
    (λ touch. nat_lt touch.tick tick ≡ false) touches n

-- `place` says when the last of the first n touches to a page was: it is no greater than the count of touches before a
-- tick exactly if none of them from that tick on is to the page.
pub record IsLast (touches : List GuestTouch) (n page place : ℕ) : Type 0 where
  pub high : place ≤ n
  pub tells : (from low : ℕ) → IsPoint touches from low → low ≤ n → nat_le place low ≡ not (is_met touches from n page)

-- for each touch, when the previous one to its page was
pub record RoundColumns : Type 0 where
  pub earlier : List ℕ

-- the index of a guest of `pages` pages with these touches
pub record IsRoundIndexOf (pages : ℕ) (touches : List GuestTouch) (index : RoundColumns) : Type 0 where
  pub fits : AreTouches pages touches
  pub earlier_len : length index.earlier ≡ length touches
  pub earlier : (i : ℕ) → i < length touches
      → IsLast touches i (slice_index_or touches i no_touch).page (slice_index_or index.earlier i 0)

-- ---- a plan that is made of counts, on its way

-- a round that may come, only by its numbers
pub record StandsAt (pages : ℕ) (touches : List GuestTouch)
    (s : MigrationSettings) (coming : NextRound) (now : RoundNumbers) : Type 0 where
  pub can : CanCome pages s coming
  pub done_is : now.step.done ≡ coming.done
  pub from_is : now.step.from ≡ coming.from
  pub rate_is : now.step.rate ≡ coming.rate
  pub listed_is : now.listed ≡ length coming.pages
  pub bound : now.next ≤ length touches
  pub point : IsPoint touches coming.from now.next

-- a round that may come, of which these are the numbers
pub record IsStanding (pages : ℕ) (touches : List GuestTouch) (s : MigrationSettings) (now : RoundNumbers) : Type
    0 where
  pub coming : NextRound
  pub at : StandsAt pages touches s coming now

-- the round that came, only by its numbers
pub record RanTo (pages : ℕ) (touches : List GuestTouch)
    (s : MigrationSettings) (coming : NextRound) (ran : RoundSums) : Type 0 where
  pub round : PlannedRound
  pub dirtied : List ℕ
  pub run : HasRun pages touches s coming round dirtied
  pub to_is : ran.to ≡ round.to
  pub sent_is : ran.sent ≡ length round.sent
  pub dirtied_is : ran.dirtied ≡ length dirtied
  pub bound : ran.next ≤ length touches
  pub point : IsPoint touches round.to ran.next

-- the numbers of the first round
pub record IsFirst (pages : ℕ) (touches : List GuestTouch) (s : MigrationSettings) (now : RoundNumbers) : Type 0 where
  pub at : StandsAt pages touches s (first_round pages touches s) now
  pub done : now.step.done ≡ 0
  pub total : now.total ≡ 0
  pub in_range : AreSettings s

-- ---- a plan whose rounds are found by marks, on its way

-- marks for the pages of a guest of `pages`, and a buffer for a list of them
pub record AreMarksOf (pages : ℕ) (marks room : List ℕ) : Type 0 where
  pub marks_len : length marks ≡ word_count pages
  pub room_len : length room ≡ pages

-- a round that may come, by its numbers and, after the first one, the list of its pages; the walk is at its first tick
pub record IsMarkedAt (pages : ℕ) (touches : List GuestTouch)
    (s : MigrationSettings) (coming : NextRound) (now : RoundNumbers) (marks room : List ℕ) : Type 0 where
  pub at : StandsAt pages touches s coming now
  pub list : 1 ≤ coming.done → coming.pages ≡ take now.listed room
  pub room_len : length room ≡ pages
  pub scan : IsScan pages touches coming.from coming.from now.next marks

-- a round that may come, of which these are the numbers and the marks
pub record CanMark (pages : ℕ) (touches : List GuestTouch)
    (s : MigrationSettings) (now : RoundNumbers) (marks room : List ℕ) : Type 0 where
  pub coming : NextRound
  pub is : IsMarkedAt pages touches s coming now marks room

-- the first `count` slots of the buffer list the pages that were written in these ticks, and the walk begins anew at
-- the last of them
pub record IsTurned (pages : ℕ) (touches : List GuestTouch)
    (from tick count next : ℕ) (marks room : List ℕ) : Type 0 where
  pub list : take count room ≡ pages_written pages touches from tick
  pub scan : IsScan pages touches tick tick next marks

-- a round has sent so many of its pages, and the walk is not past their ticks
pub record HasSentOf (pages : ℕ) (touches : List GuestTouch)
    (s : MigrationSettings) (coming : NextRound) (sent : SentPages) (marks : List ℕ) : Type 0 where
  pub list : List ℕ
  pub is_sent : IsSent (s.skip && nat_le 1 coming.done) touches coming.from coming.rate coming.pages list
  pub count_is : sent.count ≡ length list
  pub within : IsScanWithin pages touches coming.from
      (coming.from + 1_000 * sent.count / coming.rate) sent.next marks

-- a round that came, of which these are the numbers, has sent its pages
pub record CanEnd (pages : ℕ) (touches : List GuestTouch)
    (s : MigrationSettings) (now : RoundNumbers) (sent : SentPages) (marks room : List ℕ) : Type 0 where
  pub coming : NextRound
  pub at : StandsAt pages touches s coming now
  pub has : HasSentOf pages touches s coming sent marks
  pub room_len : length room ≡ pages
