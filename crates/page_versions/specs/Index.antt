-- What an index of the writes of a trace holds. This project's own, as versions are.
use Rattle.std.specs.Prelude.{◌≡◌, ℕ, ◌==◌, nat_le, List, map, max}
use Rattle.std.specs.List.{enumerate_from, filter, fold}
use Rattle.migration_model.specs.Trace.{GuestTrace}
use Rattle.migration_model.specs.Touches.{GuestTouch, touches_of}

-- when each write was and to which page, in the order of the trace, for a guest with `pages` pages
pub record GuestIndex : Type 0 where
  pub pages : ℕ
  pub touches : List GuestTouch

abbrev pub index_with : ℕ → List GuestTouch → GuestIndex
index_with pages touches = record { pages = pages; touches = touches }

-- the index has the trace's pages, and the tick and the page of each of its writes, in order
abbrev pub IsIndexOf : GuestIndex → GuestTrace → Type 0
IsIndexOf index trace = (index.pages ≡ trace.pages) × (index.touches ≡ touches_of trace)

-- the places of the touches of a page, in ascending order: the first touch of all has place 1
abbrev pub places_in : List GuestTouch → ℕ → List ℕ
places_in touches page = map (λ at. at.0) (filter (λ at. at.1.page == page) (enumerate_from 1 touches))

-- the places of a trace's writes to a page, in ascending order
abbrev pub places_of : GuestTrace → ℕ → List ℕ
places_of trace page = map (λ at. at.0) (filter (λ at. at.1.page == page) (enumerate_from 1 trace.writes))

-- the version of a page after the first `count` writes of a trace: the greatest place of a write to it among them, or 0
abbrev pub version_after : GuestTrace → ℕ → ℕ → ℕ
version_after trace page count = fold max 0 (filter (λ place. nat_le place count) (places_of trace page))

-- the place and tick of each touch of a page, and of each of a trace's writes to it, in ascending order
abbrev pub stamps_in : List GuestTouch → ℕ → List (ℕ × ℕ)
stamps_in touches page = map (λ at. (at.0, at.1.tick)) (filter (λ at. at.1.page == page) (enumerate_from 1 touches))

abbrev pub stamps_of : GuestTrace → ℕ → List (ℕ × ℕ)
stamps_of trace page = map (λ at. (at.0, at.1.tick)) (filter (λ at. at.1.page == page) (enumerate_from 1 trace.writes))

-- the index has the trace's pages and, for each page, the places and ticks of its writes
abbrev pub HasWritesOf : GuestIndex → GuestTrace → Type 0
HasWritesOf index trace = (index.pages ≡ trace.pages)
    × ((page : ℕ) → stamps_in index.touches page ≡ stamps_of trace page)
