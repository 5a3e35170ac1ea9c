-- When pages are written, without the bytes: all that working sets and rounds need.
use Rattle.std.specs.Prelude.{◌≡◌, ℕ, ◌^◌, ◌<◌, ◌≤◌, ◌&&◌, ◌==◌, nat_lt, nat_le, Bool, true, false, List, length, map}
use Rattle.std.specs.List.{All, list_any, filter, range_with_len}
use Rattle.std.specs.List.Sorted.{IsNonDecreasingBy, IsPartitionPoint}
use Rattle.migration_model.specs.Trace.{GuestWrite, GuestTrace, last_by}

-- when a write was, and to which page
pub record GuestTouch : Type 0 where
  pub tick : ℕ
  pub page : ℕ

abbrev pub touch_with : ℕ → ℕ → GuestTouch
touch_with tick page = record { tick = tick; page = page }

abbrev pub no_touch : GuestTouch
no_touch = touch_with 0 0

abbrev pub touch_of : GuestWrite → GuestTouch
touch_of write = touch_with write.tick write.page

-- the touches of all writes of a trace, in order
abbrev pub touches_of : GuestTrace → List GuestTouch
touches_of trace = map touch_of trace.writes

-- the tick of the last touch, or 0 if there is none
abbrev pub last_tick_of : List GuestTouch → ℕ
last_tick_of touches = last_by (λ touch. touch.tick) touches

-- a touch that a guest of `pages` pages may have
pub record IsTouch (pages : ℕ) (touch : GuestTouch) : Type 0 where
  pub tick : touch.tick < 2 ^ 40
  pub page : touch.page < pages

-- touches of such a guest in order, no more of them than a trace may have
pub record AreTouches (pages : ℕ) (touches : List GuestTouch) : Type 0 where
  pub few : length touches ≤ 2 ^ 20
  pub each : All (IsTouch pages) touches
  pub in_order : IsNonDecreasingBy (λ touch. touch.tick) touches

-- the first `count` touches are those before a tick
abbrev pub ArePlacedBefore : List GuestTouch → ℕ → ℕ → Type 0
ArePlacedBefore touches tick count = IsPartitionPoint (λ touch. nat_lt touch.tick tick ≡ true)
    (λ touch. nat_lt touch.tick tick ≡ false) touches count

-- whether the page is written at a tick from `from` on and before `to`: the pages modified during a round, of Clark
-- and others (2005), section 4
abbrev pub is_written : List GuestTouch → ℕ → ℕ → ℕ → Bool
is_written touches from to page = list_any (λ touch. (touch.page == page)
    && (nat_le from touch.tick && nat_lt touch.tick to)) touches

-- the pages, of a guest of `pages`, that are written in such a range of ticks, in ascending order
abbrev pub pages_written : ℕ → List GuestTouch → ℕ → ℕ → List ℕ
pages_written pages touches from to = filter (is_written touches from to) (range_with_len 0 pages)

-- a trace without the bytes of its writes
pub record GuestTouches : Type 0 where
  pub version : ℕ
  pub shift : ℕ
  pub pages : ℕ
  pub touches : List GuestTouch

abbrev pub touches_with : ℕ → ℕ → ℕ → List GuestTouch → GuestTouches
touches_with version shift pages touches = record { version = version; shift = shift; pages = pages; touches = touches }

abbrev pub touches_in : GuestTrace → GuestTouches
touches_in trace = touches_with trace.version trace.shift trace.pages (touches_of trace)
