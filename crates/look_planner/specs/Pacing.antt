-- How a list goes on until the hypervisor looks, by its numbers. No contract of a public call cites it.
use Rattle.std.specs.Prelude.{◌≡◌, ℕ, ◌+◌, ◌-◌, ◌*◌, ◌≤◌, min, nat_lt, not}
use Rattle.migration_model.specs.Looks.{HypervisorSettings, IsLook, sent_in}
use Rattle.look_planner.specs.declared.pace.Sent.{Sent}

-- the first end of a window, after the first one, that is no earlier than a tick
pub record IsWindowEnd (window tick end : ℕ) : Type 0 where
  pub some : 1 ≤ end
  pub late : tick ≤ end
  pub windows : ℕ
  pub whole : end ≡ windows * window
  pub first : (others : ℕ) → 1 ≤ others * window → tick ≤ others * window → end ≤ others * window

-- a list of so many pages that begins at this tick goes on so
pub record IsSentSo (s : HypervisorSettings) (from pages : ℕ) (sent : Sent) : Type 0 where
  pub ticks : ℕ
  pub look : IsLook s pages ticks
  pub to_is : sent.to ≡ min (from + ticks) s.end
  pub count_is : sent.count ≡ sent_in s.rate pages (sent.to - from)
  pub is_look : sent.is_look ≡ not (nat_lt s.end (from + ticks))
  pub moves : 1 ≤ pages → 1 ≤ ticks
