-- What C sees of a check onto memory as it was before a tick, of pages that come without a stamp, and of memory beside
-- that after the first writes of a trace. This project's own.
use Rattle.std.specs.Prelude.{◌≡◌, ◌≢◌, ◌<◌, ◌≤◌, ◌+◌, ◌*◌, ◌^◌, ℕ, List, length, slice_set}
use Rattle.migration_model.specs.Memory.{put}
use Rattle.migration_model.specs.Trace.{GuestTrace}
use Rattle.open_checks.specs.Differences.{IsFirstWrongByte}
use Rattle.open_checks.specs.Kept.{kept_version}
use Rattle.open_checks.specs.Unstamped.{IsFirstFitting, IsFittingVersion}
use Rattle.open_checks.specs.declared.differences.WrongByte.{WrongByte}
use Rattle.c_answers.specs.Memories.{memory_length}
use Rattle.c_answers.specs.declared.checking.StreamFinding.{StreamFinding}
use Rattle.c_answers.specs.declared.unstamped.UnstampedRefusal.{UnstampedRefusal}
use Rattle.c_answers.specs.declared.unstamped.UnstampedRefusal.TheVariants as refusals

abbrev pub number_of_unstamped : UnstampedRefusal → ℕ
number_of_unstamped refusals.MemoryLength = 63
number_of_unstamped refusals.PageCount = 64
number_of_unstamped refusals.NoPage = 67
number_of_unstamped refusals.PageLength = 62
number_of_unstamped refusals.OtherBytes = 74
number_of_unstamped (refusals.Byte found) = 75

-- a wrong byte as C sees it
abbrev pub byte_finding : WrongByte → StreamFinding
byte_finding found = record {
  stream = 0;
  frame = 0;
  offset = found.offset;
  tick = found.tick;
  page = found.page;
  stamp = 0;
  wanted = found.version;
  missing = found.place;
}

-- what C is told of what is wrong
abbrev pub found_unstamped : UnstampedRefusal → StreamFinding → StreamFinding
found_unstamped refusals.MemoryLength old = old
found_unstamped refusals.PageCount old = old
found_unstamped refusals.NoPage old = old
found_unstamped refusals.PageLength old = old
found_unstamped refusals.OtherBytes old = old
found_unstamped (refusals.Byte found) old = byte_finding found

-- there are as many bytes as all pages have, and a word for each page
pub record FitsWords (trace : GuestTrace) (greatest memory : List ℕ) : Type 0 where
  pub memory_is : length memory ≡ memory_length trace
  pub greatest_is : length greatest ≡ trace.pages

-- and the page is one of the guest, with as many bytes as one has
pub record FitsPage (trace : GuestTrace) (page : ℕ) (content greatest memory : List ℕ) : Type 0 where
  pub words : FitsWords trace greatest memory
  pub page_is : page < trace.pages
  pub content_is : length content ≡ 2 ^ trace.shift

-- the page has these bytes at a version; it is kept at the first of them, and memory has the bytes
pub record TakesBytes (trace : GuestTrace) (stop page : ℕ) (content greatest memory new_greatest new_memory : List ℕ)
    : Type 0 where
  pub fits : FitsPage trace page content greatest memory
  pub version : ℕ
  pub first : IsFirstFitting trace stop page (kept_version greatest page) content version
  pub words : new_greatest ≡ slice_set greatest page (version + 1)
  pub bytes : new_memory ≡ put memory (page * 2 ^ trace.shift) content

-- there are not so many bytes of memory, or else not so many words
abbrev pub RefusesWords : GuestTrace → List ℕ → List ℕ → UnstampedRefusal → Type 0
RefusesWords trace greatest memory refusals.MemoryLength = length memory ≢ memory_length trace
RefusesWords trace greatest memory refusals.PageCount = (length memory ≡ memory_length trace)
    × (length greatest ≢ trace.pages)
RefusesWords trace greatest memory refusals.NoPage = ⊥
RefusesWords trace greatest memory refusals.PageLength = ⊥
RefusesWords trace greatest memory refusals.OtherBytes = ⊥
RefusesWords trace greatest memory (refusals.Byte found) = ⊥

-- or else the guest does not have the page, or a page not so many bytes, or this one has them at no version
abbrev pub RefusesBytes : GuestTrace → ℕ → ℕ → List ℕ → List ℕ → List ℕ → UnstampedRefusal → Type 0
RefusesBytes trace stop page content greatest memory refusals.MemoryLength = length memory ≢ memory_length trace
RefusesBytes trace stop page content greatest memory refusals.PageCount = (length memory ≡ memory_length trace)
    × (length greatest ≢ trace.pages)
RefusesBytes trace stop page content greatest memory refusals.NoPage = FitsWords trace greatest memory
    × (trace.pages ≤ page)
RefusesBytes trace stop page content greatest memory refusals.PageLength = FitsWords trace greatest memory
    × (page < trace.pages) × (length content ≢ 2 ^ trace.shift)
RefusesBytes trace stop page content greatest memory refusals.OtherBytes = FitsPage trace page content greatest memory
    × ((version : ℕ) → ¬ IsFittingVersion trace stop page (kept_version greatest page) content version)
RefusesBytes trace stop page content greatest memory (refusals.Byte found) = ⊥

-- there are not so many bytes of memory, or else not so many of room, or this is the first byte that is wrong
abbrev pub RefusesMemory : GuestTrace → ℕ → List ℕ → ℕ → UnstampedRefusal → Type 0
RefusesMemory trace count memory room refusals.MemoryLength = length memory ≢ memory_length trace
RefusesMemory trace count memory room refusals.PageCount = ⊥
RefusesMemory trace count memory room refusals.NoPage = ⊥
RefusesMemory trace count memory room refusals.PageLength = (length memory ≡ memory_length trace)
    × (room ≢ 2 ^ trace.shift)
RefusesMemory trace count memory room refusals.OtherBytes = ⊥
RefusesMemory trace count memory room (refusals.Byte found) = (length memory ≡ memory_length trace)
    × (room ≡ 2 ^ trace.shift) × IsFirstWrongByte trace count memory found
