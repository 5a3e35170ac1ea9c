-- What a copier lists, and what it sends on its lanes.
use Rattle.std.specs.Prelude.{◌≡◌, ◌⊎◌, ℕ, ◌≤◌, ◌+◌, min, List, [], ◌∷◌, ◌++◌, length, map}
use Rattle.std.specs.List.{Any, Contains, sum_by}
use Rattle.migration_model.specs.Trace.{GuestTrace}
use Rattle.migration_model.specs.Versions.{page_at}
use Rattle.migration_model.specs.Final.{shape_of_trace}
use Rattle.migration_model.specs.Frames.{PageFrame, SpellsFrame, content_of}
use Rattle.stream_lanes.specs.Ends.{OutView, IsSentOn}

-- the pages sent, each with the place that was read, those skipped, and those deferred
pub record RoundLogView : Type 0 where
  pub sent : List (ℕ × ℕ)
  pub skipped : List ℕ
  pub deferred : List ℕ

abbrev pub log_with : List (ℕ × ℕ) → List ℕ → List ℕ → RoundLogView
log_with sent skipped deferred = record { sent = sent; skipped = skipped; deferred = deferred }

-- no page is listed
abbrev pub empty_log : RoundLogView
empty_log = log_with [] [] []

abbrev pub with_sent : ℕ → ℕ → RoundLogView → RoundLogView
with_sent page place log = record log { sent = log.sent ++ (page, place) ∷ [] }

abbrev pub with_skipped : ℕ → RoundLogView → RoundLogView
with_skipped page log = record log { skipped = log.skipped ++ page ∷ [] }

abbrev pub with_deferred : ℕ → RoundLogView → RoundLogView
with_deferred page log = record log { deferred = log.deferred ++ page ∷ [] }

abbrev pub IsSentAt : RoundLogView → ℕ → ℕ → Type 0
IsSentAt log page place = Contains log.sent (page, place)

-- the page was sent, skipped or deferred
abbrev pub IsListed : RoundLogView → ℕ → Type 0
IsListed log page = Contains (map (λ sent. sent.0) log.sent) page
    ⊎ (Contains log.skipped page ⊎ Contains log.deferred page)

-- The stamp of a page that was read at this place. A place that is read is that of a write; nobody knows this until the
-- table is closed, so a stamp is capped at the number of writes.
abbrev pub stamp_for : GuestTrace → ℕ → ℕ
stamp_for trace place = min place (length trace.writes)

-- the frame of a page that was read at this place
pub record IsFrameAt (trace : GuestTrace) (page place : ℕ) (frame : PageFrame) : Type 0 where
  pub page_is : frame.page ≡ page
  pub stamp_is : frame.stamp ≡ stamp_for trace place
  pub content : content_of (shape_of_trace trace) frame ≡ page_at trace frame.page frame.stamp

-- these bytes encode that frame
pub record SpellsPage (trace : GuestTrace) (page place : ℕ) (text : List ℕ) : Type 0 where
  pub frame : PageFrame
  pub is_frame : IsFrameAt trace page place frame
  pub spells : SpellsFrame (shape_of_trace trace) text frame

-- how many frames were sent on these lanes
abbrev pub frames_sent : List OutView → ℕ
frames_sent outs = sum_by (λ out. length out.sent) outs

-- one of these lanes was sent as many frames as it holds
abbrev pub IsCrowded : List OutView → Type 0
IsCrowded outs = Any (λ out. out.lane.capacity ≤ length out.sent) outs

-- After a copier sent the pages of its log: beyond what was sent on its lanes before, these have the frame of each page
-- and no other. Pages are deferred only if a lane was full.
pub record IsPosted (trace : GuestTrace) (before : List OutView)
    (log : RoundLogView) (after : List OutView) : Type 0 where
  pub lanes : map (λ out. out.lane) after ≡ map (λ out. out.lane) before
  pub kept : (text : List ℕ) → IsSentOn before text → IsSentOn after text
  pub new : (text : List ℕ) → IsSentOn after text
      → IsSentOn before text ⊎ ((page : ℕ) × (place : ℕ) × IsSentAt log page place × SpellsPage trace page place text)
  pub all : (page place : ℕ) → IsSentAt log page place → (text : List ℕ) × IsSentOn after text
      × SpellsPage trace page place text
  pub count : frames_sent after ≡ frames_sent before + length log.sent
  pub crowded : (page : ℕ) → Contains log.deferred page → IsCrowded after
