-- Live rounds of a migration, and the law that they keep. After Clark and others, "Live Migration of Virtual Machines"
-- (2005), section 4: each round sends the pages that were dirtied during the round before. After their section 5.4, it
-- may leave out those that are dirtied again. Versions, copiers and the order of a scan are this project's own.
use Rattle.std.specs.Prelude.{◌≡◌, ◌⊎◌, ℕ, ◌-◌, ◌/◌, ◌%◌, ◌<◌, ◌≤◌, ◌==◌, Bool, true, List, [], ◌∷◌, ◌++◌, length, map}
use Rattle.std.specs.Prelude.{take, Option, Some, IsSomeAnd, slice_get}
use Rattle.std.specs.List.{Any, AllPairs, Contains, count_by, flat_map}
use Rattle.migration_model.specs.Trace.{GuestTrace, GuestWrite}
use Rattle.migration_model.specs.Versions.{IsWritten, version_before}
use Rattle.migration_model.specs.Rounds.{PlannedRound}

-- the place of a write to the page, at a tick from `from` on and before `to`
pub record IsPlaceOf (trace : GuestTrace) (page from to place : ℕ) : Type 0 where
  pub write : GuestWrite
  pub some : 1 ≤ place
  pub there : slice_get trace.writes (place - 1) ≡ Some write
  pub page_is : write.page ≡ page
  pub low : from ≤ write.tick
  pub high : write.tick < to

-- what one live round did: the pages sent, each with its stamp, those skipped, and those deferred
pub record LiveRound : Type 0 where
  pub sent : List (ℕ × ℕ)
  pub skipped : List ℕ
  pub deferred : List ℕ

abbrev pub live_round_with : List (ℕ × ℕ) → List ℕ → List ℕ → LiveRound
live_round_with sent skipped deferred = record { sent = sent; skipped = skipped; deferred = deferred }

abbrev pub pages_sent : LiveRound → List ℕ
pages_sent round = map (λ sent. sent.0) round.sent

-- the page was sent with this stamp
abbrev pub IsSentWith : LiveRound → ℕ → ℕ → Type 0
IsSentWith round page stamp = Contains round.sent (page, stamp)

-- the page was sent, skipped or deferred
abbrev pub IsListed : LiveRound → ℕ → Type 0
IsListed round page = Contains (pages_sent round) page ⊎ (Contains round.skipped page ⊎ Contains round.deferred page)

-- the copier that a page belongs to: words of 64 pages go round the `copiers` copiers one by one
abbrev pub page_copier : ℕ → ℕ → ℕ
page_copier copiers page = page / 64 % copiers

-- pages go by copier, and those of one copier in ascending order
abbrev pub IsInScanOrder : ℕ → List ℕ → Type 0
IsInScanOrder copiers pages = AllPairs (λ page later. (page_copier copiers page < page_copier copiers later)
    ⊎ ((page_copier copiers page ≡ page_copier copiers later) × (page < later))) pages

-- how many pages a copier sent in these rounds
abbrev pub sent_by_copier : ℕ → List LiveRound → ℕ → ℕ
sent_by_copier copiers rounds copier = count_by (λ page. page_copier copiers page == copier)
    (flat_map pages_sent rounds)

-- the destination begins with the memory before a base, and the page's version before the tick is no greater than there
abbrev pub IsInBase : GuestTrace → Option ℕ → ℕ → ℕ → Type 0
IsInBase trace base tick page = IsSomeAnd base (λ from. version_before trace page tick ≤ version_before trace page from)

-- The page came with a stamp no less than its version before the tick: with the base, or sent in some of these rounds.
abbrev pub WasCurrent : GuestTrace → Option ℕ → ℕ → List LiveRound → ℕ → Type 0
WasCurrent trace base tick rounds page = IsInBase trace base tick page
    ⊎ Any (λ round. Any (λ sent. (sent.0 ≡ page) × (version_before trace page tick ≤ sent.1)) round.sent) rounds

-- the last of these rounds skipped or deferred the page
abbrev pub IsPutOff : List LiveRound → ℕ → Type 0
IsPutOff rounds page = (last : LiveRound) × (slice_get rounds (length rounds - 1) ≡ Some last)
    × (Contains last.skipped page ⊎ Contains last.deferred page)

-- after these rounds a round must list the page: it was put off, or did not come as it is when the round begins
abbrev pub IsDue : GuestTrace → Option ℕ → ℕ → List LiveRound → ℕ → Type 0
IsDue trace base from rounds page = IsPutOff rounds page ⊎ (¬ WasCurrent trace base from rounds page)

-- the page was written during the last of these rounds
abbrev pub IsWrittenLast : GuestTrace → List PlannedRound → ℕ → Type 0
IsWrittenLast trace planned page = (last : PlannedRound) × (slice_get planned (length planned - 1) ≡ Some last)
    × IsWritten trace last.from last.to page

-- One round, after others, by `copiers` copiers over lanes of `lane` frames, in the ticks that were planned for it. If
-- there is a base, its versions count as sent before the first round.
pub record KeepsLaw (trace : GuestTrace) (base : Option ℕ)
    (skip : Bool) (copiers lane : ℕ) (planned : List PlannedRound) (rounds : List LiveRound)
    (plan : PlannedRound) (round : LiveRound) : Type 0 where
  -- a page is listed at most once, and each list goes by copier and then by page
  pub sent_order : IsInScanOrder copiers (pages_sent round)
  pub skipped_order : IsInScanOrder copiers round.skipped
  pub deferred_order : IsInScanOrder copiers round.deferred
  pub apart : (page : ℕ) → Contains (pages_sent round) page → ¬ Contains round.skipped page
  pub deferred_apart : (page : ℕ) → Contains round.deferred page → (¬ Contains (pages_sent round) page)
      × (¬ Contains round.skipped page)
  -- each page that is due is listed, and no other but those written in this round or the previous one
  pub due : (page : ℕ) → page < trace.pages → IsDue trace base plan.from rounds page → IsListed round page
  pub only : (page : ℕ) → IsListed round page
      → (page < trace.pages) × (IsDue trace base plan.from rounds page
      ⊎ (IsWrittenLast trace planned page ⊎ IsWritten trace plan.from plan.to page))
  -- a stamp is the page's version when the round began, or the place of a write in the round
  pub stamps : (page stamp : ℕ) → IsSentWith round page stamp
      → (stamp ≡ version_before trace page plan.from) ⊎ IsPlaceOf trace page plan.from plan.to stamp
  -- a page is skipped only if skipping is on, not in the first round, and if the page is written in this round
  pub skips : (page : ℕ) → Contains round.skipped page → (skip ≡ true) × (1 ≤ length rounds)
      × IsWritten trace plan.from plan.to page
  -- a page is deferred only if its copier sent at least as many pages, in this round and earlier ones, as a lane holds
  pub defers : (page : ℕ) → Contains round.deferred page
      → lane ≤ sent_by_copier copiers (rounds ++ round ∷ []) (page_copier copiers page)

-- The law of live rounds: there are as many as were planned, and each keeps the law after those before it.
pub record LiveRounds (trace : GuestTrace) (base : Option ℕ)
    (skip : Bool) (copiers lane : ℕ) (planned : List PlannedRound) (rounds : List LiveRound) : Type 0 where
  pub count : length rounds ≡ length planned
  pub each : (i : ℕ) (plan : PlannedRound) (round : LiveRound) → slice_get planned i ≡ Some plan
      → slice_get rounds i ≡ Some round
      → KeepsLaw trace base skip copiers lane (take i planned) (take i rounds) plan round
