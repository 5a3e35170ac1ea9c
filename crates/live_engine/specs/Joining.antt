-- What a round leaves, and how rounds are joined.
use Rattle.std.specs.Prelude.{◌≡◌, ◌⊎◌, ℕ, ◌+◌, ◌<◌, ◌≤◌, Bool, true, IsTrue, List, [], ◌∷◌, map, slice_get}
use Rattle.std.specs.Prelude.{slice_index, Option, Some, IfSome, IsSomeAnd}
use Rattle.std.specs.List.{All, Any, Contains}
use Rattle.migration_model.specs.Trace.{GuestTrace}
use Rattle.migration_model.specs.Versions.{IsWritten, version_before, page_at}
use Rattle.migration_model.specs.Rounds.{PlannedRound}
use Rattle.migration_model.specs.Frames.{PageFrame, SpellsFrame, content_of}
use Rattle.migration_model.specs.Final.{shape_of_trace}
use Rattle.migration_model.specs.Live.{IsPlaceOf, LiveRound, IsSentWith, IsListed, IsInScanOrder, IsInBase, WasCurrent}
use Rattle.migration_model.specs.Live.{IsPutOff, IsWrittenLast}
use Rattle.migration_model.specs.Live.{pages_sent, page_copier, sent_by_copier}
use Rattle.page_bitmap.specs.Pages.{in_words}
use Rattle.dirty_words.specs.Seats.{ClosedView}
use Rattle.stream_lanes.specs.Ends.{LaneId, OutView, IsSentOn}
use Rattle.live_tasks.specs.RoundLogs.{IsCrowded, SpellsPage, frames_sent}

abbrev pub IsMarked : List ℕ → ℕ → Type 0
IsMarked dirty page = IsTrue (in_words dirty page)

-- What a round in these ticks did and left, if the table opened with the versions before them and these marks.
pub record IsLiveRound (trace : GuestTrace) (skip : Bool) (copiers : ℕ) (dirty : List ℕ) (from to : ℕ)
    (closed : ClosedView) (round : LiveRound) : Type 0 where
  pub versions : (page : ℕ) → page < trace.pages → slice_index closed.versions page ≡ version_before trace page to
  pub found : (page : ℕ) → page < trace.pages → IsMarked dirty page → IsListed round page
  pub only : (page : ℕ) → IsListed round page
      → (page < trace.pages) × (IsMarked dirty page ⊎ IsWritten trace from to page)
  pub stamps : (page stamp : ℕ) → IsSentWith round page stamp
      → (stamp ≡ version_before trace page from) ⊎ IsPlaceOf trace page from to stamp
  pub over : (page stamp : ℕ) → IsSentWith round page stamp → stamp ≤ version_before trace page to
  pub skips : (page : ℕ) → Contains round.skipped page → (skip ≡ true) × IsWritten trace from to page
      × IsMarked closed.dirty page
  pub put_off : (page : ℕ) → Contains round.deferred page → IsMarked closed.dirty page
  pub due : (page : ℕ) → page < trace.pages → IsMarked closed.dirty page
      → IsWritten trace from to page ⊎ (Contains round.skipped page ⊎ Contains round.deferred page)
  pub caught_up : (page : ℕ) → page < trace.pages → IsMarked dirty page ⊎ IsWritten trace from to page
      → IsMarked closed.dirty page ⊎ IsSentWith round page (version_before trace page to)
  pub sent_order : IsInScanOrder copiers (pages_sent round)
  pub skipped_order : IsInScanOrder copiers round.skipped
  pub deferred_order : IsInScanOrder copiers round.deferred
  pub apart : (page : ℕ) → Contains (pages_sent round) page → ¬ Contains round.skipped page
  pub deferred_apart : (page : ℕ) → Contains round.deferred page → (¬ Contains (pages_sent round) page)
      × (¬ Contains round.skipped page)

-- the frame was sent by one of the copiers, whose lanes these are
abbrev pub IsSentBy : List (List OutView) → List ℕ → Type 0
IsSentBy rows text = Any (λ outs. IsSentOn outs text) rows

-- which lanes the copiers have
abbrev pub lanes_of : List (List OutView) → List (List LaneId)
lanes_of rows = map (λ outs. map (λ out. out.lane) outs) rows

-- each lane holds `lane` frames
abbrev pub HaveCapacity : ℕ → List (List LaneId) → Type 0
HaveCapacity lane rows = All (All (λ id. id.capacity ≡ lane)) rows

-- nothing was sent on any lane
abbrev pub HaveSentNothing : List (List OutView) → Type 0
HaveSentNothing rows = All (All (λ out. out.sent ≡ [])) rows

-- In this round the copiers sent the frames of the pages that are listed as sent, and no other; a page was deferred
-- only if one of its copier's lanes was full.
pub record HavePosted (trace : GuestTrace) (copiers : ℕ) (round : LiveRound)
    (before after : List (List OutView)) : Type 0 where
  pub lanes : lanes_of after ≡ lanes_of before
  pub kept : (text : List ℕ) → IsSentBy before text → IsSentBy after text
  pub new : (text : List ℕ) → IsSentBy after text
      → IsSentBy before text ⊎ ((page : ℕ) × (place : ℕ) × Contains round.sent (page, place)
      × SpellsPage trace page place text)
  pub all : (page place : ℕ) → Contains round.sent (page, place) → (text : List ℕ) × IsSentBy after text
      × SpellsPage trace page place text
  pub count : (copier : ℕ) (old new : List OutView) → slice_get before copier ≡ Some old
      → slice_get after copier ≡ Some new
      → frames_sent new ≤ frames_sent old + sent_by_copier copiers (round ∷ []) copier
  pub crowded : (page : ℕ) → Contains round.deferred page
      → (outs : List OutView) × (slice_get after (page_copier copiers page) ≡ Some outs) × IsCrowded outs

-- this text is the frame of a page at a version no later than this one of its page
pub record IsHonestText (trace : GuestTrace) (versions : List ℕ) (text : List ℕ) : Type 0 where
  pub frame : PageFrame
  pub spells : SpellsFrame (shape_of_trace trace) text frame
  pub content : content_of (shape_of_trace trace) frame ≡ page_at trace frame.page frame.stamp
  pub bound : frame.stamp ≤ slice_index versions frame.page

-- this text is the frame of the page at this version
pub record IsCurrentText (trace : GuestTrace) (versions : List ℕ) (page : ℕ) (text : List ℕ) : Type 0 where
  pub frame : PageFrame
  pub spells : SpellsFrame (shape_of_trace trace) text frame
  pub page_is : frame.page ≡ page
  pub stamp_is : frame.stamp ≡ slice_index versions page

-- the destination began with a base, and the page has its version of then
abbrev pub IsAsInBase : GuestTrace → Option ℕ → List ℕ → ℕ → Type 0
IsAsInBase trace base versions page = IsSomeAnd base
    (λ from. slice_index versions page ≡ version_before trace page from)

-- What holds after these rounds, when the next begins at this tick: the versions are those before it; each frame that
-- was sent is honest and nowhere beyond them; each page that isn't marked was sent as it is now, or is as in the base.
-- Before the first round only pages that differ from the base are marked.
pub record AreJoined (trace : GuestTrace) (base : Option ℕ) (copiers tick : ℕ) (planned : List PlannedRound)
    (rounds : List LiveRound)
    (closed : ClosedView) (rows : List (List OutView)) : Type 0 where
  pub base_low : IfSome base (λ from. from ≤ tick)
  pub versions : (page : ℕ) → page < trace.pages → slice_index closed.versions page ≡ version_before trace page tick
  pub honest : (text : List ℕ) → IsSentBy rows text → IsHonestText trace closed.versions text
  pub current : (page : ℕ) → page < trace.pages → ¬ IsMarked closed.dirty page
      → ((text : List ℕ) × IsSentBy rows text × IsCurrentText trace closed.versions page text)
      ⊎ IsAsInBase trace base closed.versions page
  pub was_sent : (page : ℕ) → page < trace.pages → ¬ IsMarked closed.dirty page → WasCurrent trace base tick rounds page
  pub put_off : (page : ℕ) → page < trace.pages → IsPutOff rounds page → IsMarked closed.dirty page
  pub marked : (page : ℕ) → page < trace.pages → IsMarked closed.dirty page
      → ((rounds ≡ []) × (¬ IsInBase trace base tick page)) ⊎ (IsPutOff rounds page ⊎ IsWrittenLast trace planned page)
  -- no copier sent more frames than are listed of its pages
  pub count : (copier : ℕ) (outs : List OutView) → slice_get rows copier ≡ Some outs
      → frames_sent outs ≤ sent_by_copier copiers rounds copier
