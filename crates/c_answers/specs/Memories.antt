-- Memory of a trace, as C sees it, and why there is none.
use Rattle.std.specs.Prelude.{ℕ, ◌*◌, ◌^◌, length, nat_lt}
use Rattle.std.specs.List.{filter}
use Rattle.migration_model.specs.Trace.{GuestTrace}

-- how many bytes the memory of a trace has
abbrev pub memory_length : GuestTrace → ℕ
memory_length trace = trace.pages * 2 ^ trace.shift

-- how many writes of a trace have a tick below this one
abbrev pub writes_before : GuestTrace → ℕ → ℕ
writes_before trace tick = length (filter (λ write. nat_lt write.tick tick) trace.writes)
