-- A walk over touches, on its way. No contract of a public call cites it.
use Rattle.std.specs.Prelude.{◌≡◌, ◌⊎◌, ℕ, ◌+◌, ◌-◌, ◌*◌, ◌/◌, ◌%◌, ◌≤◌, ◌<◌, ◌&&◌, ◌==◌, ◌^◌, nat_lt, nat_le, true}
use Rattle.std.specs.Prelude.{false, Bool, List, length, take, slice_index_or}
use Rattle.std.specs.List.{filter, list_any, range_with_len}
use Rattle.std.specs.List.Sorted.{IsPartitionPoint}
use Rattle.migration_model.specs.Rates.{MigrationSettings}
use Rattle.migration_model.specs.Rounds.{NextRound, PlannedRound, IsRound}
use Rattle.migration_model.specs.Touches.{GuestTouch, no_touch, pages_written}
use Rattle.page_bitmap.specs.Pages.{in_words}
use Rattle.page_bitmap.specs.Listing.{word_count}
use Rattle.round_planner.specs.declared.pace.Pace.{Pace}
use Rattle.round_planner.specs.declared.pace.Progress.{Progress}

-- whether one of the first `next` touches is to the page and at a tick from `from` on
abbrev pub is_met : List GuestTouch → ℕ → ℕ → ℕ → Bool
is_met touches from next page = list_any (λ touch. (touch.page == page) && nat_le from touch.tick) (take next touches)

-- the marks are of the pages that are met
pub record AreMet (pages : ℕ) (touches : List GuestTouch) (from next : ℕ) (marks : List ℕ) : Type 0 where
  pub len : length marks ≡ word_count pages
  pub marked : (page : ℕ) → page < pages → in_words marks page ≡ is_met touches from next page
  pub none : (page : ℕ) → pages ≤ page → in_words marks page ≡ false

-- the walk is at a tick: those touches are the ones before it
pub record IsScan (pages : ℕ) (touches : List GuestTouch) (from tick next : ℕ) (marks : List ℕ) : Type 0 where
  pub order : from ≤ tick
  pub bound : next ≤ length touches
  pub point : IsPartitionPoint (λ touch. nat_lt touch.tick tick ≡ true)
      (λ touch. nat_lt touch.tick tick ≡ false) touches next
  pub met : AreMet pages touches from next marks

-- the walk is at some tick that is no later than this one
pub record IsScanWithin (pages : ℕ) (touches : List GuestTouch) (from limit next : ℕ) (marks : List ℕ) : Type 0 where
  pub tick : ℕ
  pub high : tick ≤ limit
  pub scan : IsScan pages touches from tick next marks

-- there are marks for all pages, and the walk is not past the last touch
pub record HasRoom (pages : ℕ) (touches : List GuestTouch) (next : ℕ) (marks : List ℕ) : Type 0 where
  pub marks_len : length marks ≡ word_count pages
  pub next_high : next ≤ length touches

-- touch `next` is to the page, and before the tick
pub record IsNextBefore (pages : ℕ) (touches : List GuestTouch) (next tick page : ℕ) : Type 0 where
  pub low : next < length touches
  pub page_is : page ≡ (slice_index_or touches next no_touch).page
  pub page_low : page < pages
  pub early : (slice_index_or touches next no_touch).tick < tick

-- some of the pages of a guest, in ascending order
pub record IsPageList (pages : ℕ) (list : List ℕ) : Type 0 where
  pub test : ℕ → Bool
  pub few : pages ≤ 65_536
  pub list_is : list ≡ filter test (range_with_len 0 pages)

-- a round that may come: it begins no later than the rounds before it can have lasted
pub record CanCome (pages : ℕ) (s : MigrationSettings) (now : NextRound) : Type 0 where
  pub list : IsPageList pages now.pages
  pub rate_low : 1 ≤ now.rate
  pub from_high : now.from < 2 ^ 40 + now.done * 65_536_000 + 1
  pub done_low : now.done < s.rounds
  pub rounds_few : s.rounds ≤ 64

-- the round that came, and what was written meanwhile: nothing, if it lasted no tick
pub record HasRun (pages : ℕ) (touches : List GuestTouch)
    (s : MigrationSettings) (now : NextRound) (round : PlannedRound) (dirtied : List ℕ) : Type 0 where
  pub is_round : IsRound pages touches s now round
  pub dirtied_are : dirtied ≡ pages_written pages touches round.from round.to
  pub order : round.from ≤ round.to
  pub timed : (1 ≤ round.to - round.from) ⊎ (round.dirtied ≡ 0)
  pub short : round.to ≤ round.from + 65_536_000
  pub few : length round.sent ≤ 65_536
  pub small : pages ≤ 65_536

-- a pace whose numbers fit their widths: a page takes `ticks` ticks, and parts of one more
pub record IsPace (pace : Pace) : Type 0 where
  pub some : 1 ≤ pace.rate
  pub low : pace.from < 2 ^ 42
  pub ticks_are : pace.ticks ≡ 1_000 / pace.rate
  pub parts_are : pace.parts ≡ 1_000 % pace.rate

-- where a round is that goes on at a pace and has sent this many pages
pub record IsProgress (pace : Pace) (at : Progress) : Type 0 where
  pub tick_is : at.tick ≡ pace.from + 1_000 * at.sent / pace.rate
  pub part_is : at.part ≡ 1_000 * at.sent % pace.rate
