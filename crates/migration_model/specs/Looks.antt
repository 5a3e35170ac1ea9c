-- The plan of a hypervisor that sends at one rate, and looks at its dirty bitmap again only when few pages are left. It
-- is how QEMU migrates: it asks from time to time how many pages are left of its list, and looks if these are few. What
-- is left then, and what was written since the last look, is the next list. It stops the guest if that is few, and it
-- never stops because much was written. Clark's plan is in `Rounds`. Ticks, roundings and the ascending order of a list
-- are this project's own. So is the end of the record: what the guest writes is known only before it.
use Rattle.std.specs.Prelude.{◌≡◌, ◌⊎◌, ℕ, ◌+◌, ◌-◌, ◌*◌, ◌/◌, ◌^◌, ◌<◌, ◌≤◌, ◌==◌, ◌||◌, nat_lt, min, Bool, false}
use Rattle.std.specs.Prelude.{if◌then◌else◌, List, [], ◌∷◌, length, drop, Option, Some, None, IfSome, MatchOption}
use Rattle.std.specs.List.{filter, list_any, range_with_len, sum_by}
use Rattle.migration_model.specs.Touches.{GuestTouch, is_written}
use Rattle.migration_model.specs.Rates.{duration_of}
use Rattle.migration_model.specs.Rounds.{pages_lacking}

-- The settings: the first tick; the base of a warm start; the rate, in pages per 1,000 ticks; how many ticks lie
-- between two questions, or 0 if it asks only when a list is sent; fewer pages than the threshold are few; the most
-- looks, if there is a most; and the tick at which the record ends.
pub record HypervisorSettings : Type 0 where
  pub start : ℕ
  pub base : Option ℕ
  pub rate : ℕ
  pub window : ℕ
  pub threshold : ℕ
  pub looks : Option ℕ
  pub end : ℕ

-- the settings that are accepted
pub record AreHypervisorSettings (s : HypervisorSettings) : Type 0 where
  pub rate_low : 1 ≤ s.rate
  pub rate_high : s.rate ≤ 1_000_000
  pub window_high : s.window ≤ 2 ^ 40
  pub threshold_low : 1 ≤ s.threshold
  pub threshold_high : s.threshold ≤ 65_536
  pub looks_low : IfSome s.looks (λ most. 1 ≤ most)
  pub end_high : s.end ≤ 2 ^ 40
  pub start_high : s.start ≤ s.end
  pub base_high : IfSome s.base (λ base. base ≤ s.start)

-- How many of so many pages are sent in these ticks. A page counts when all of it is sent: one that is on its way at a
-- look is still in the bitmap.
abbrev pub sent_in : ℕ → ℕ → ℕ → ℕ
sent_in rate pages ticks = min pages (rate * ticks / 1_000)

-- how many of so many pages are left after these ticks
abbrev pub left_after : HypervisorSettings → ℕ → ℕ → ℕ
left_after s pages ticks = pages - sent_in s.rate pages ticks

-- It asks how many pages are left so many ticks after a list of this many pages began: when all are sent, and at the
-- end of each window.
abbrev pub IsAsked : HypervisorSettings → ℕ → ℕ → Type 0
IsAsked s pages ticks = (ticks ≡ duration_of pages s.rate)
    ⊎ ((windows : ℕ) × (1 ≤ ticks) × (ticks ≡ windows * s.window))

-- It looks so many ticks after such a list began: the first time that it asks and few are left.
pub record IsLook (s : HypervisorSettings) (pages ticks : ℕ) : Type 0 where
  pub asked : IsAsked s pages ticks
  pub few : left_after s pages ticks < s.threshold
  pub first : (earlier : ℕ) → IsAsked s pages earlier → earlier < ticks → s.threshold ≤ left_after s pages earlier

-- A list of pages, in ascending order, from one look on and before the next, or before the record ends. So many of them
-- are sent, from the first one on.
pub record SentList : Type 0 where
  pub from : ℕ
  pub to : ℕ
  pub pages : List ℕ
  pub sent : ℕ

-- the list that comes next: how many looks are done, its first tick and its pages
pub record NextList : Type 0 where
  pub done : ℕ
  pub from : ℕ
  pub pages : List ℕ

-- the first list has the pages that the destination lacks
abbrev pub first_list : ℕ → List GuestTouch → HypervisorSettings → NextList
first_list pages touches s = record { done = 0; from = s.start; pages = pages_lacking pages touches s.base s.start }

-- whether the page is in the list
abbrev pub is_among : ℕ → List ℕ → Bool
is_among page pages = list_any (λ other. page == other) pages

-- what a look finds, of a guest of `pages` pages: the pages that are left of a list, and those that were written while
-- it was sent
abbrev pub pages_left : ℕ → List GuestTouch → SentList → List ℕ
pages_left pages touches list = filter (λ page. is_among page (drop list.sent list.pages)
    || is_written touches list.from list.to page) (range_with_len 0 pages)

-- the list after one begins at the look that ends it, with the pages that the look finds
abbrev pub list_after : ℕ → List GuestTouch → NextList → SentList → NextList
list_after pages touches now list =
    record { done = now.done + 1; from = list.to; pages = pages_left pages touches list }

-- the list that comes next, if the hypervisor looks so many ticks after it began
pub record IsSentList (s : HypervisorSettings) (now : NextList) (ticks : ℕ) (list : SentList) : Type 0 where
  pub from_is : list.from ≡ now.from
  pub to_is : list.to ≡ min (now.from + ticks) s.end
  pub pages_are : list.pages ≡ now.pages
  pub sent_is : list.sent ≡ sent_in s.rate (length now.pages) (list.to - now.from)

-- why a plan ends
pub data PlanEnd : Type 0 where
  record_ends : PlanEnd
  few_left : PlanEnd
  looks_done : PlanEnd

-- whether there is a most, and these are so many
abbrev pub is_most : Option ℕ → ℕ → Bool
is_most None looks = false
is_most (Some most) looks = looks == most

-- Why a plan ends with a list, if it does: the next look would be after the record, or, with it, so many looks are done
-- and it finds so many pages.
abbrev pub end_after : HypervisorSettings → ℕ → ℕ → ℕ → Option PlanEnd
end_after s look found looks =
    if nat_lt s.end look then Some record_ends
    else (if nat_lt found s.threshold then Some few_left
    else (if is_most s.looks looks then Some looks_done
    else None))

-- the lists, why they end, the tick at which the guest stops or the record ends, the pages that are left then, and how
-- many ticks those take
pub record HypervisorPlan : Type 0 where
  pub lists : List SentList
  pub end : PlanEnd
  pub stop : ℕ
  pub last : List ℕ
  pub down : ℕ

-- what is left after the last list
pub record IsPlanEnd (pages : ℕ) (touches : List GuestTouch) (s : HypervisorSettings) (list : SentList) (end : PlanEnd)
    (plan : HypervisorPlan) : Type 0 where
  pub end_is : plan.end ≡ end
  pub stop_is : plan.stop ≡ list.to
  pub last_are : plan.last ≡ pages_left pages touches list
  pub down_is : plan.down ≡ duration_of (length plan.last) s.rate

-- These lists are the next one and all that follow.
abbrev pub AreLists : ℕ → List GuestTouch → HypervisorSettings → NextList → List SentList → HypervisorPlan → Type 0
AreLists pages touches s now [] plan = ⊥
AreLists pages touches s now (list ∷ lists) plan =
    (ticks : ℕ) × IsLook s (length now.pages) ticks × IsSentList s now ticks list
    × MatchOption (end_after s (now.from + ticks) (length (pages_left pages touches list)) (now.done + 1))
    (AreLists pages touches s (list_after pages touches now list) lists plan)
    (λ end. (lists ≡ []) × IsPlanEnd pages touches s list end plan)

-- the plan of a guest of `pages` pages with these touches
abbrev pub IsHypervisorPlan : ℕ → List GuestTouch → HypervisorSettings → HypervisorPlan → Type 0
IsHypervisorPlan pages touches s plan = AreLists pages touches s (first_list pages touches s) plan.lists plan

-- how many pages a plan sends before it stops the guest
abbrev pub sent_of : List SentList → ℕ
sent_of lists = sum_by (λ list. list.sent) lists
