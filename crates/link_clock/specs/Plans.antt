-- The plan of a hypervisor over a link whose rate changes. This project's own.
use Rattle.std.specs.Prelude.{◌≡◌, ℕ, ◌+◌, ◌*◌, List}
use Rattle.std.specs.Option.{option_map}
use Rattle.migration_model.specs.Looks.{HypervisorSettings}
use Rattle.migration_model.specs.Touches.{GuestTouch}
use Rattle.look_planner.specs.Sums.{AreSums}
use Rattle.look_planner.specs.declared.sums.LookSums.{LookSums}
use Rattle.link_clock.specs.Links.{ChangingLink, IsSentBy, clock_at, sent_before, touches_by}

-- settings by the clock of a link, whose rate takes the place of theirs
abbrev pub settings_by : ChangingLink → HypervisorSettings → HypervisorSettings
settings_by link s = record {
  start = clock_at link s.start;
  base = option_map (clock_at link) s.base;
  rate = link.rate;
  window = s.window;
  threshold = s.threshold;
  looks = s.looks;
  end = clock_at link s.end;
}

-- These are sums by the clock of a link, with the tick of the stop in their place, and the ticks from there on in which
-- the link sends what is left.
pub record AreByTicks (link : ChangingLink) (by_clock sums : LookSums) : Type 0 where
  pub end_is : sums.end ≡ by_clock.end
  pub looks_is : sums.looks ≡ by_clock.looks
  pub total_is : sums.total ≡ by_clock.total
  pub left_is : sums.left ≡ by_clock.left
  pub shortens_is : sums.shortens ≡ by_clock.shortens
  pub stop_is : IsSentBy link (link.rate * by_clock.stop) sums.stop
  pub down_is : IsSentBy link (sent_before link sums.stop + 1_000 * sums.left) (sums.stop + sums.down)

-- these are the sums of the plan of a guest of `pages` pages with these touches
pub record AreLinkSums (pages : ℕ) (touches : List GuestTouch) (link : ChangingLink) (s : HypervisorSettings)
    (sums : LookSums) : Type 0 where
  pub by_clock : LookSums
  pub are_sums : AreSums pages (touches_by link touches) (settings_by link s) by_clock
  pub by_ticks : AreByTicks link by_clock sums
