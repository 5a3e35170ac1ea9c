-- The bitmap and the list of pages between two looks. No contract of a public call cites it.
use Rattle.std.specs.Prelude.{◌≡◌, ℕ, ◌≤◌, List, length, replicate, take}
use Rattle.migration_model.specs.Looks.{AreHypervisorSettings, HypervisorSettings, SentList}
use Rattle.migration_model.specs.Rounds.{pages_lacking}
use Rattle.migration_model.specs.Touches.{GuestTouch}
use Rattle.page_bitmap.specs.Listing.{word_count}
use Rattle.round_planner.specs.Indexing.{IsPoint}
use Rattle.round_planner.specs.Scanning.{IsPageList}
use Rattle.look_planner.specs.declared.bitmap.ListNumbers.{ListNumbers}
use Rattle.look_planner.specs.declared.pace.Sent.{Sent}

-- the list of these numbers, whose pages the front of a buffer has, if it is sent so
pub record IsListOf (now : ListNumbers) (sent : Sent) (room : List ℕ) (list : SentList) : Type 0 where
  pub from_is : list.from ≡ now.from
  pub to_is : list.to ≡ sent.to
  pub pages_are : list.pages ≡ take now.listed room
  pub sent_is : list.sent ≡ sent.count

-- the front of a buffer with a slot for each page lists so many of a guest's pages
pub record IsListed (pages listed : ℕ) (room : List ℕ) : Type 0 where
  pub room_len : length room ≡ pages
  pub few : listed ≤ pages
  pub list : IsPageList pages (take listed room)

-- no page is marked, and the list's touches begin at its first tick
pub record IsReady (pages : ℕ) (touches : List GuestTouch) (now : ListNumbers) (marks : List ℕ) : Type 0 where
  pub clear : marks ≡ replicate (word_count pages) 0
  pub bound : now.next ≤ length touches
  pub point : IsPoint touches now.from now.next

-- the front of a buffer has the first list
pub record IsFirst (pages : ℕ) (touches : List GuestTouch) (s : HypervisorSettings) (now : ListNumbers)
    (room : List ℕ) : Type 0 where
  pub in_range : AreHypervisorSettings s
  pub listed : IsListed pages now.listed room
  pub from_is : now.from ≡ s.start
  pub pages_are : take now.listed room ≡ pages_lacking pages touches s.base s.start
