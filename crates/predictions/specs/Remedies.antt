-- What would keep the downtime limit of a migration, or how far it is kept, and what ends it within the trace, found by
-- plans. As an amount grows, a limit may be kept, missed and kept again: an answer is the nearest turn of the amounts
-- that are tried. This project's own.
pub mod Trials
pub mod Questions
pub mod Texts
use Rattle.std.specs.Prelude.{◌≡◌, ◌↔◌, ◌⊎◌, ℕ, ◌+◌, ◌-◌, ◌*◌, ◌/◌, ◌^◌, ◌<◌, min, not, if◌then◌else◌, Bool, true}
use Rattle.std.specs.Prelude.{false, IsTrue, List, Option, None, Some, unwrap_or}
use Rattle.std.specs.Int.{div_ceil}
use Rattle.predictions.specs.Remedies.Trials.{EndsWith, EndsWithin, KeepsLimit, KeepsWith, MigrationTrial}
use Rattle.predictions.specs.declared.remedies.change.Change.TheVariants as changes
use Rattle.predictions.specs.declared.remedies.ending.Ending.{Ending}
use Rattle.predictions.specs.declared.remedies.finding.Remedies.{Remedies}
use Rattle.predictions.specs.declared.remedies.way.Way.{Way}
use Rattle.predictions.specs.declared.remedies.way.Way.TheVariants as ways
use Rattle.migration_model.specs.Touches.{GuestTouch, last_tick_of}

-- The amounts of a way, from number 0 on: up from an amount by doublings, down by halvings, to another by sixteenths,
-- or down from 100 by steps of 5. None is more than 64 bits hold.
abbrev pub amount_on : Way → ℕ → ℕ
amount_on (ways.Up from) n = min (from * 2 ^ n) (2 ^ 64 - 1)
amount_on (ways.Down from) n = from / 2 ^ n
amount_on (ways.Between from to) n = (from * (16 - n) + to * n) / 16
amount_on ways.Slower n = 100 - 5 * n

-- how many amounts come after the first
abbrev pub count_on : Way → ℕ
count_on (ways.Up from) = 6
count_on (ways.Down from) = 6
count_on (ways.Between from to) = 16
count_on ways.Slower = 19

-- of the amounts that come after the first, this many answer a test so
abbrev pub AllAnswer : (ℕ → Type 0) → Bool → Way → ℕ → Type 0
AllAnswer Keeps is_kept way count = (n : ℕ) → n < count → IsTrue is_kept ↔ Keeps (amount_on way (n + 1))

-- the answer turns on a way: `at` is the first amount with the other answer, and `before` is the amount before it
pub record TurnsAt (Keeps : ℕ → Type 0) (is_kept : Bool) (way : Way) (before at : ℕ) : Type 0 where
  pub place : ℕ
  pub is_in : place < count_on way
  pub before_is : before ≡ amount_on way place
  pub at_is : at ≡ amount_on way (place + 1)
  pub not_yet : AllAnswer Keeps is_kept way place
  pub turned : IsTrue (not is_kept) ↔ Keeps at

abbrev pub TurnsNowhere : (ℕ → Type 0) → Bool → Way → Type 0
TurnsNowhere Keeps is_kept way = AllAnswer Keeps is_kept way (count_on way)

-- down from an amount that keeps the limit, and up from one that does not
abbrev pub far_way : ℕ → Bool → Way
far_way start is_kept = if is_kept then ways.Down start else ways.Up start

-- where the answer turns nearest on a way: on the way first, then between the amounts there, and once more
pub record TurnsNear (Keeps : ℕ → Type 0) (is_kept : Bool) (way : Way) (before at : ℕ) : Type 0 where
  pub far_before : ℕ
  pub far_at : ℕ
  pub far : TurnsAt Keeps is_kept way far_before far_at
  pub near_before : ℕ
  pub near_at : ℕ
  pub near : TurnsAt Keeps is_kept (ways.Between far_before far_at) near_before near_at
  pub nearest : TurnsAt Keeps is_kept (ways.Between near_before near_at) before at

-- the first amount of a way that keeps the limit, if that with which it begins does not; there may be none
abbrev pub IsFirst : (ℕ → Type 0) → Way → Option ℕ → Type 0
IsFirst Keeps way (Some first) = (before : ℕ) × TurnsNear Keeps false way before first
IsFirst Keeps way None = TurnsNowhere Keeps false way

-- What is found from a start that keeps the limit: the last that does going down, or a 64th if the answer turns
-- nowhere. From one that does not: the first that does going up, if there is one.
abbrev pub IsFound : (ℕ → Type 0) → ℕ → Bool → Option ℕ → Type 0
IsFound Keeps start true (Some least) = ((at : ℕ) × TurnsNear Keeps true (ways.Down start) least at)
    ⊎ (TurnsNowhere Keeps true (ways.Down start) × (least ≡ start / 2 ^ 6))
IsFound Keeps start true None = ⊥
IsFound Keeps start false least = IsFirst Keeps (ways.Up start) least

-- the least amount that keeps the limit, near a start
pub record IsLeast (Keeps : ℕ → Type 0) (start : ℕ) (least : Option ℕ) : Type 0 where
  pub is_kept : Bool
  pub answered : IsTrue is_kept ↔ Keeps start
  pub found : IsFound Keeps start is_kept least

-- the speed to which the guest has to be slowed, if a limit is not kept at its own
abbrev pub IsSlowed : (ℕ → Type 0) → Bool → Option ℕ → Type 0
IsSlowed Keeps true speed = speed ≡ None
IsSlowed Keeps false (Some speed) = (before : ℕ) × TurnsAt Keeps false ways.Slower before speed
IsSlowed Keeps false None = TurnsNowhere Keeps false ways.Slower

-- what is found if it is not needed, and if it is
abbrev pub IsFoundUnless : Bool → (Option ℕ → Type 0) → Option ℕ → Type 0
IsFoundUnless true IsIt found = found ≡ None
IsFoundUnless false IsIt found = IsIt found

-- Whether a trial ends within the trace, and what does if it does not: the least link in Kbit a second, and the latest
-- tick at which it begins. The search for the latter goes back from the trial's start, or the last tick if that is
-- earlier, to the copy at the destination, or else to tick 0.
pub record AreEndings (pages : ℕ) (touches : List GuestTouch) (trial : MigrationTrial) (ending : Ending) : Type
    0 where
  pub ends : IsTrue ending.ends ↔ EndsWithin pages touches trial
  pub link : IsFoundUnless ending.ends
      (IsLeast (EndsWith pages touches trial changes.Link) (div_ceil trial.limits.link 125)) ending.link
  pub start : IsFoundUnless ending.ends (IsFirst (EndsWith pages touches trial changes.Start)
      (ways.Between (min trial.others.start (last_tick_of touches)) (unwrap_or trial.others.base 0))) ending.start

-- Whether a trial keeps its limit, and what does: the least link in Kbit a second, the least downtime in microseconds,
-- and the speed of the guest in per cent. The search begins at what the trial has; its link is rounded up. And what
-- ends it within the trace, whether it then keeps its limit or not.
pub record AreRemedies (pages : ℕ) (touches : List GuestTouch) (trial : MigrationTrial) (remedies : Remedies) : Type
    0 where
  pub kept : IsTrue remedies.is_kept ↔ KeepsLimit pages touches trial
  pub link : IsLeast (KeepsWith pages touches trial changes.Link) (div_ceil trial.limits.link 125) remedies.link
  pub downtime : IsLeast (KeepsWith pages touches trial changes.Downtime) trial.limits.downtime remedies.downtime
  pub speed : IsSlowed (KeepsWith pages touches trial changes.Speed) remedies.is_kept remedies.speed
  pub ending : AreEndings pages touches trial remedies.ending
