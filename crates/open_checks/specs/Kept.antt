-- What a caller lends to a check over an open trace: words with the stamps of the pages that came, and memory with
-- their bytes. All of it begins as zeros. This project's own.
use Rattle.std.specs.Prelude.{◌≡◌, ℕ, ◌+◌, ◌*◌, ◌-◌, ◌^◌, ◌<◌, ◌==◌, if◌then◌else◌, List, length, map, slice_index}
use Rattle.std.specs.Prelude.{Option, Some, None}
use Rattle.migration_model.specs.Final.{shape_of_trace}
use Rattle.migration_model.specs.Memory.{memory_with, page_of}
use Rattle.migration_model.specs.Trace.{GuestTrace}
use Rattle.migration_model.specs.Versions.{page_at}
use Rattle.open_traces.specs.Index.{versions_at}
use Rattle.page_versions.specs.Index.{version_after}
use Rattle.stream_check.specs.Checked.{Checked, checked_with}

-- the stamp in a page's word, which is one more; the word is 0 if the page did not come
abbrev pub stamp_in : ℕ → Option ℕ
stamp_in word = if word == 0 then None else Some (word - 1)

abbrev pub stamps_in : List ℕ → List (Option ℕ)
stamps_in words = map stamp_in words

-- what is known by the words of a stream's last stamps, and by those of the greatest of all streams
abbrev pub known_by : GuestTrace → ℕ → List ℕ → List ℕ → Checked
known_by trace stop last greatest =
    checked_with (shape_of_trace trace) stop (stamps_in last) (stamps_in greatest)

-- the version at which memory has a page: its greatest stamp, or 0 if it did not come
abbrev pub kept_version : List ℕ → ℕ → ℕ
kept_version greatest page = slice_index greatest page - 1

-- each page has such a version
abbrev pub AreVersions : GuestTrace → List ℕ → Type 0
AreVersions trace greatest = (page : ℕ) → page < trace.pages
    → kept_version greatest page ≡ version_after trace page (kept_version greatest page)

-- there is a word for each page, and the memory has each page at its version
pub record IsKept (trace : GuestTrace) (greatest memory : List ℕ) : Type 0 where
  pub words_are : length greatest ≡ trace.pages
  pub memory_is : length memory ≡ trace.pages * 2 ^ trace.shift
  pub versions : AreVersions trace greatest
  pub bytes : (page : ℕ) → page < trace.pages
      → page_of (memory_with trace.shift trace.pages memory) page ≡ page_at trace page (kept_version greatest page)

-- the words of pages that came as they are after the first `count` writes: their versions, plus 1
abbrev pub words_at : GuestTrace → ℕ → List ℕ
words_at trace count = map (λ version. version + 1) (versions_at trace count)
