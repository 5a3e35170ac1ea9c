-- How far a copier has got with the pages of its words.
use Rattle.std.specs.Prelude.{◌≡◌, ◌⊎◌, ℕ, ◌<◌, ◌≤◌, ◌/◌, ◌*◌, ◌+◌, ◌&&◌, nat_le, Bool, true, IsTrue, map}
use Rattle.std.specs.List.{Contains}
use Rattle.std.specs.List.Sorted.{IsStrictlyIncreasing}
use Rattle.page_bitmap.specs.Pages.{in_words, bit_pages}
use Rattle.dirty_core.specs.Start.{CopierOwnsPage, sizes_of}
use Rattle.dirty_core.specs.Runs.{IsVisited}
use Rattle.dirty_words.specs.Facts.{CopyFacts}
use Rattle.live_tasks.specs.RoundLogs.{RoundLogView, IsSentAt, IsListed}

abbrev pub IsOwn : CopyFacts → ℕ → Type 0
IsOwn facts page = CopierOwnsPage (sizes_of facts.start) facts.number page

abbrev pub WasMarked : CopyFacts → ℕ → Type 0
WasMarked facts page = IsTrue (in_words facts.start.dirty page)

abbrev pub IsHeldNow : CopyFacts → ℕ → Type 0
IsHeldNow facts page = IsTrue (in_words facts.held page)

abbrev pub IsReturned : CopyFacts → ℕ → Type 0
IsReturned facts page = IsTrue (in_words facts.returned page)

abbrev pub IsFresh : CopyFacts → ℕ → Type 0
IsFresh facts page = IsTrue (in_words facts.fresh page)

-- The pages of the copier's words before word `ahead` were harvested. Each page that was marked at opening, and none
-- that is neither that nor fresh, is listed or still held; those held come after those listed.
pub record IsScanned (skip : Bool) (ahead : ℕ) (facts : CopyFacts) (log : RoundLogView) : Type 0 where
  pub untouched : (page : ℕ) → ahead ≤ page / 64 → in_words facts.returned page ≡ in_words facts.start.dirty page
  pub found : (page : ℕ) → IsOwn facts page → page / 64 < ahead → WasMarked facts page → IsListed log page
      ⊎ IsHeldNow facts page
  pub listed : (page : ℕ) → IsListed log page → IsOwn facts page
      × (page / 64 < ahead) × (WasMarked facts page ⊎ IsFresh facts page)
  pub held : (page : ℕ) → IsHeldNow facts page → IsOwn facts page
      × (page / 64 < ahead) × (WasMarked facts page ⊎ IsFresh facts page)
  pub rising : (page other : ℕ) → IsListed log page → IsHeldNow facts other → page < other
  pub returned : (page : ℕ) → IsOwn facts page → page / 64 < ahead → IsReturned facts page
      → Contains log.skipped page ⊎ Contains log.deferred page
  pub skipped : (page : ℕ) → Contains log.skipped page → (skip ≡ true) × IsFresh facts page × IsReturned facts page
  pub deferred : (page : ℕ) → Contains log.deferred page → IsReturned facts page
  pub reads : (page place : ℕ) → IsVisited facts.reads page place → IsSentAt log page place
  pub sent : (page place : ℕ) → IsSentAt log page place → IsVisited facts.reads page place
  pub sent_rise : IsStrictlyIncreasing (map (λ sent. sent.0) log.sent)
  pub skipped_rise : IsStrictlyIncreasing log.skipped
  pub deferred_rise : IsStrictlyIncreasing log.deferred
  pub apart : (page : ℕ) → Contains (map (λ sent. sent.0) log.sent) page → ¬ Contains log.skipped page
  pub deferred_apart : (page : ℕ) → Contains log.deferred page
      → (¬ Contains (map (λ sent. sent.0) log.sent) page) × (¬ Contains log.skipped page)

-- the pages of these bits of this word are held, from a bit on, and no other page
abbrev pub HoldsFrom : ℕ → ℕ → ℕ → CopyFacts → Type 0
HoldsFrom word bits from facts = (page : ℕ) → in_words facts.held page
    ≡ (bit_pages word bits page && nat_le (64 * word + from) page)

-- the page is held, and none before it
abbrev pub IsLeast : CopyFacts → ℕ → Type 0
IsLeast facts page = IsHeldNow facts page × ((other : ℕ) → IsHeldNow facts other → page ≤ other)
