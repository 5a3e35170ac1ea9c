-- The index of a trace that is read in place: where its records are, and the places of the writes to each page.
-- This project's own.
use Rattle.std.specs.Prelude.{◌≡◌, ℕ, ◌+◌, ◌==◌, ◌++◌, List, length, map, nat_lt}
use Rattle.std.specs.Prelude.{slice_index_or, take}
use Rattle.std.specs.List.{enumerate_from, filter, flat_map, range_with_len}
use Rattle.migration_model.specs.Trace.{GuestTrace, GuestWrite, Spells, write_text}
use Rattle.guest_log.specs.declared.shape.Header.{Header}
use Rattle.page_versions.specs.Index.{places_of, version_after}

-- where in the bytes of a trace the record of each write begins: behind the header and the earlier records
abbrev pub begins_of : List GuestWrite → List ℕ
begins_of writes = map (λ n. 16 + length (flat_map write_text (take n writes))) (range_with_len 0 (length writes))

-- the page of each write
abbrev pub pages_of : List GuestWrite → List ℕ
pages_of writes = map (λ write. write.page) writes

-- the place of the first write to a page behind a place, or 0 if there is none
abbrev pub next_after : GuestTrace → ℕ → ℕ → ℕ
next_after trace page place = slice_index_or (filter (λ next. nat_lt place next) (places_of trace page)) 0 0

-- the places of these pages that are this page, in ascending order: the first of all has place 1
abbrev pub places_in : List ℕ → ℕ → List ℕ
places_in pages page = map (λ at. at.0) (filter (λ at. at.1 == page) (enumerate_from 1 pages))

-- the places of the first `count` pages, page after page
abbrev pub places_below : List ℕ → ℕ → List ℕ
places_below pages count = flat_map (λ page. places_in pages page) (range_with_len 0 count)

-- where in that list the places of each of these pages begin
abbrev pub starts_below : List ℕ → ℕ → List ℕ
starts_below pages count = map (λ page. length (places_below pages page)) (range_with_len 0 count)

-- and where they end
abbrev pub ends_below : List ℕ → ℕ → List ℕ
ends_below pages count = map (λ page. length (places_below pages (page + 1))) (range_with_len 0 count)

-- the whole index: where records begin, their pages, the places of each page, and where these begin
abbrev pub index_of : GuestTrace → List ℕ
index_of trace = begins_of trace.writes ++ (pages_of trace.writes
    ++ (places_below (pages_of trace.writes) trace.pages ++ starts_below (pages_of trace.writes) trace.pages))

-- how many words it has
abbrev pub index_length : GuestTrace → ℕ
index_length trace = length trace.writes + (length trace.writes + (length trace.writes + trace.pages))

-- these are the bytes of the trace, and these words its index
pub record IsOpen (trace : GuestTrace) (bytes words : List ℕ) : Type 0 where
  pub spells : Spells bytes trace
  pub words_are : words ≡ index_of trace

-- these are the bytes and the index of a trace with this header
pub record IsOpenWith (header : Header) (bytes words : List ℕ) : Type 0 where
  pub trace : GuestTrace
  pub is_open : IsOpen trace bytes words
  pub version_is : header.version ≡ trace.version
  pub shift_is : header.shape.shift ≡ trace.shift
  pub pages_is : header.shape.pages ≡ trace.pages
  pub writes_is : header.shape.writes ≡ length trace.writes

-- the same, with the index cut into its lists
pub record IsOpenAs (trace : GuestTrace) (bytes begins pages places starts : List ℕ) : Type 0 where
  pub spells : Spells bytes trace
  pub begins_are : begins ≡ begins_of trace.writes
  pub pages_are : pages ≡ pages_of trace.writes
  pub places_are : places ≡ places_below (pages_of trace.writes) trace.pages
  pub starts_are : starts ≡ starts_below (pages_of trace.writes) trace.pages

-- the versions of all pages after the first `count` writes, page by page
abbrev pub versions_at : GuestTrace → ℕ → List ℕ
versions_at trace count = map (λ page. version_after trace page count) (range_with_len 0 trace.pages)
