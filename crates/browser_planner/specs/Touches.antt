-- When pages are written, in room that is lent.
use Rattle.std.specs.Prelude.{ℕ, ◌≤◌, List}
use Rattle.migration_model.specs.Touches.{AreTouches, GuestTouch, touch_with}
use Rattle.browser_planner.specs.declared.touches.LentTouch.{LentTouch}

abbrev pub touch_in : LentTouch → GuestTouch
touch_in touch = touch_with touch.tick touch.page

-- how many pages a guest has, and its touches
pub record LentTimeline : Type 0 where
  pub pages : ℕ
  pub touches : List GuestTouch

abbrev pub timeline_with : ℕ → List GuestTouch → LentTimeline
timeline_with pages touches = record { pages = pages; touches = touches }

-- a guest may have this many pages, and these touches
pub record IsTimeline (pages : ℕ) (touches : List GuestTouch) : Type 0 where
  pub some : 1 ≤ pages
  pub few : pages ≤ 65_536
  pub fits : AreTouches pages touches
