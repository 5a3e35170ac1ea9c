-- The pages that a span of ticks writes, and the versions of a page.
use Rattle.std.specs.Prelude.{◌≡◌, ℕ, ◌<◌, ◌≤◌, ◌&&◌, ◌==◌, nat_lt, List, map, max}
use Rattle.std.specs.List.{Any, filter, fold, enumerate_from}
use Rattle.migration_model.specs.Trace.{GuestTrace}
use Rattle.migration_model.specs.Memory.{image_after, page_of}

-- The page is written at a tick from `from` on and before `to`: the pages modified during a round, of Clark and
-- others (2005), section 4.
abbrev pub IsWritten : GuestTrace → ℕ → ℕ → ℕ → Type 0
IsWritten trace from to page = Any (λ write. (write.page ≡ page) × (from ≤ write.tick) × (write.tick < to)) trace.writes

-- The places of the writes to a page before a tick, in ascending order. A write's place is its number in the trace, 1
-- for the first. This project's own, as versions are.
abbrev pub places_before : GuestTrace → ℕ → ℕ → List ℕ
places_before trace page tick =
    map (λ at. at.0) (filter (λ at. (at.1.page == page) && nat_lt at.1.tick tick) (enumerate_from 1 trace.writes))

-- the version of a page before a tick: the greatest place of such a write, or 0 if there is none
abbrev pub version_before : GuestTrace → ℕ → ℕ → ℕ
version_before trace page tick = fold max 0 (places_before trace page tick)

-- a page's bytes at a version: after the first `version` writes of the trace
abbrev pub page_at : GuestTrace → ℕ → ℕ → List ℕ
page_at trace page version = page_of (image_after trace version) page
