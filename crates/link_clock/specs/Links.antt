-- A link whose rate changes at some ticks, as that of a migration does when others end that share a wire with it. It
-- has a clock, which goes on by a tick in a tick at the link's full rate, and by less at lower ones: by that clock it
-- has one rate. So a list of pages that is sent while the rate changes is cut there, and what the guest writes
-- meanwhile counts by when it is written. This project's own.
use Rattle.std.specs.Prelude.{◌≡◌, ℕ, ◌+◌, ◌-◌, ◌*◌, ◌/◌, ◌^◌, ◌≤◌, ◌&&◌, nat_le, not, min, Bool, if◌then◌else◌}
use Rattle.std.specs.Prelude.{List, [], ◌∷◌, map, Option, None, Some}
use Rattle.std.specs.Option.{option_map}
use Rattle.migration_model.specs.Touches.{GuestTouch, touch_with}
use Rattle.link_clock.specs.declared.error.LinkError.{LinkError}
use Rattle.link_clock.specs.declared.error.LinkError.TheVariants.{Change, Rate}
use Rattle.link_clock.specs.declared.link.LinkChange.{LinkChange}

-- the rate of a link until it changes, in pages per 1,000 ticks, and the changes in order
pub record ChangingLink : Type 0 where
  pub rate : ℕ
  pub changes : List LinkChange

abbrev pub link_with : ℕ → List LinkChange → ChangingLink
link_with rate changes = record { rate = rate; changes = changes }

-- whether a link of this rate may change so, if the change before it is at a tick
abbrev pub fits : ℕ → ℕ → LinkChange → Bool
fits rate from change = nat_le from change.tick
    && (nat_le change.tick (2 ^ 40) && (nat_le 1 change.rate && nat_le change.rate rate))

-- the number of the first change that a link of this rate may not have, if they are numbered from one on
abbrev pub misfit_from : ℕ → ℕ → ℕ → List LinkChange → Option ℕ
misfit_from rate from number [] = None
misfit_from rate from number (change ∷ later) =
    if fits rate from change then misfit_from rate change.tick (number + 1) later else Some number

-- what a link is refused for
abbrev pub refusal_of : ChangingLink → Option LinkError
refusal_of link =
    if not (nat_le 1 link.rate && nat_le link.rate 1_000_000) then Some Rate
    else option_map Change (misfit_from link.rate 0 0 link.changes)

abbrev pub IsLink : ChangingLink → Type 0
IsLink link = refusal_of link ≡ None

-- How many thousandths of a page are sent from one tick on and before another: at this rate until the first change, and
-- then at that one's.
abbrev pub sent_from : ℕ → ℕ → List LinkChange → ℕ → ℕ
sent_from from rate [] tick = rate * (tick - from)
sent_from from rate (change ∷ later) tick =
    rate * (min tick change.tick - from) + sent_from change.tick change.rate later tick

abbrev pub sent_before : ChangingLink → ℕ → ℕ
sent_before link tick = sent_from 0 link.rate link.changes tick

-- what the clock of a link shows at a tick
abbrev pub clock_at : ChangingLink → ℕ → ℕ
clock_at link tick = sent_before link tick / link.rate

-- the first tick by which so many thousandths of a page are sent
pub record IsSentBy (link : ChangingLink) (amount tick : ℕ) : Type 0 where
  pub sent : amount ≤ sent_before link tick
  pub first : (earlier : ℕ) → amount ≤ sent_before link earlier → tick ≤ earlier

-- touches by the clock of a link
abbrev pub touch_by : ChangingLink → GuestTouch → GuestTouch
touch_by link touch = touch_with (clock_at link touch.tick) touch.page

abbrev pub touches_by : ChangingLink → List GuestTouch → List GuestTouch
touches_by link touches = map (touch_by link) touches
