-- What a cache keeps of a guest's pages. This project's own, as versions are.
use Rattle.std.specs.Prelude.{◌≡◌, ℕ, ◌<◌, ◌≤◌, ◌-◌, List, length, nat_eq, take}
use Rattle.lru.specs.LruCache.{lru_cache, put_entries}
use Rattle.std.specs.List.{All}
use Rattle.migration_model.specs.Trace.{GuestTrace}
use Rattle.migration_model.specs.Versions.{page_at}

-- bytes of a page, and their version
pub record KeptPage : Type 0 where
  pub version : ℕ
  pub bytes : List ℕ

abbrev pub page_with : ℕ → List ℕ → KeptPage
page_with version bytes = record { version = version; bytes = bytes }

-- kept pages by number, at most `capacity` of them, the most recently used in front
pub record GuestPages : Type 0 where
  pub entries : List (ℕ × KeptPage)
  pub capacity : ℕ

abbrev pub pages_with : List (ℕ × KeptPage) → ℕ → GuestPages
pages_with entries capacity = record { entries = entries; capacity = capacity }

-- the pages that are kept of a trace
pub record GuestCache : Type 0 where
  pub trace : GuestTrace
  pub entries : List (ℕ × KeptPage)
  pub capacity : ℕ

abbrev pub cache_with : GuestTrace → List (ℕ × KeptPage) → ℕ → GuestCache
cache_with trace entries capacity = record { trace = trace; entries = entries; capacity = capacity }

-- a page of the trace has the bytes of its version
abbrev pub IsKept : GuestTrace → ℕ → KeptPage → Type 0
IsKept trace page kept = (page < trace.pages) × (kept.version ≤ length trace.writes)
    × (kept.bytes ≡ page_at trace page kept.version)

-- each entry has the bytes of its page and version
abbrev pub AreKept : GuestTrace → List (ℕ × KeptPage) → Type 0
AreKept trace entries = All (λ entry. IsKept trace entry.0 entry.1) entries

-- What is kept after a page was asked for: that page in front, and all others as they were. If the page is new and the
-- cache was full, the least recently used one is gone, and no other.
abbrev pub entries_after : GuestCache → ℕ → KeptPage → List (ℕ × KeptPage)
entries_after cache page kept = put_entries nat_eq (lru_cache cache.entries cache.capacity) page kept

-- What is kept if memory runs out for a new page: all, but of a full cache the least recently used page is gone.
abbrev pub entries_without_room : GuestCache → List (ℕ × KeptPage)
entries_without_room cache = take (cache.capacity - 1) cache.entries
