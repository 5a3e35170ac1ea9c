-- A copier in a round.
use Rattle.std.specs.Prelude.{◌≡◌, ◌⊎◌, ◌↔◌, ℕ, ◌<◌, ◌≤◌, ◌+◌, ◌/◌, Bool, List, length, map, slice_index_or}
use Rattle.migration_model.specs.Trace.{GuestTrace}
use Rattle.page_bitmap.specs.Listing.{word_count}
use Rattle.page_bitmap.specs.Pages.{in_words, bit_pages, one_page, union, minus, SamePages}
use Rattle.dirty_words.specs.Facts.{CopyFacts, HoldsNone, after_peek, after_read, after_restore}
use Rattle.dirty_words.specs.Plays.{MakesFresh}
use Rattle.dirty_words.specs.Seats.{TableView, CopyView, copy_table}
use Rattle.stream_lanes.specs.Ends.{OutView, HasRoom, IsSentOn}
use Rattle.live_tasks.specs.RoundLogs.{IsCrowded, IsPosted, SpellsPage, frames_sent, with_deferred, with_sent}
use Rattle.live_tasks.specs.RoundLogs.{with_skipped}
use Rattle.live_tasks.specs.CopierStates.{CopierStateView, IsCopierState, RoundStateView, cache_capacity}
use Rattle.live_tasks.specs.Scans.{IsScanned}

-- the copier looked at the page's word, and the answer says whether it showed the page
pub record HasPeeked (page : ℕ) (shows : Bool) (old new : CopyFacts) : Type 0 where
  pub answer : ℕ
  pub facts : new ≡ after_peek (page / 64) answer old
  pub shows_is : bit_pages (page / 64) answer page ≡ shows
  pub shown : MakesFresh old (page / 64) answer new

-- one more frame fits on the lane of this stream
pub record HasRoomAt (outs : List OutView) (stream : ℕ) : Type 0 where
  pub there : stream < length outs
  pub room : (out : OutView) → slice_index_or outs stream out ≡ out → HasRoom out

-- the lane of this stream was sent as many frames as it holds
pub record IsFullAt (outs : List OutView) (stream : ℕ) : Type 0 where
  pub there : stream < length outs
  pub full : (out : OutView) → slice_index_or outs stream out ≡ out → out.lane.capacity ≤ length out.sent

-- nothing was sent on the lanes: only what is known of their free slots may differ
pub record KeepsSent (before after : List OutView) : Type 0 where
  pub lanes : map (λ out. out.lane) after ≡ map (λ out. out.lane) before
  pub same : map (λ out. out.sent) after ≡ map (λ out. out.sent) before
  pub crowded : IsCrowded before → IsCrowded after

-- one more frame was sent on one of the lanes
pub record HasSentFrame (text : List ℕ) (before after : List OutView) : Type 0 where
  pub lanes : map (λ out. out.lane) after ≡ map (λ out. out.lane) before
  pub is : (other : List ℕ) → IsSentOn after other ↔ (IsSentOn before other ⊎ (text ≡ other))
  pub count : frames_sent after ≡ frames_sent before + 1
  pub crowded : IsCrowded before → IsCrowded after

-- the copier read the page's place, and sent its frame
pub record HasSentPage (trace : GuestTrace) (page : ℕ) (old : CopyFacts) (before : RoundStateView) (new : CopyFacts)
    (state : RoundStateView) : Type 0 where
  pub place : ℕ
  pub text : List ℕ
  pub spells : SpellsPage trace page place text
  pub facts : new ≡ after_read page place old
  pub log_is : state.log ≡ with_sent page place before.log
  pub sends : HasSentFrame text before.outs state.outs
  pub held : SamePages (in_words new.held) (minus (in_words old.held) (one_page page))

-- the copier gave the page back
pub record HasRestored (page : ℕ) (old new : CopyFacts) : Type 0 where
  pub bits : ℕ
  pub facts : new ≡ after_restore (page / 64) bits old
  pub held : SamePages (in_words new.held) (minus (in_words old.held) (one_page page))
  pub returned : SamePages (in_words new.returned) (union (in_words old.returned) (one_page page))

-- the copier gave the page back, and listed it as skipped
pub record HasSkippedPage (page : ℕ) (old : CopyFacts) (before : RoundStateView) (new : CopyFacts)
    (state : RoundStateView) : Type 0 where
  pub restored : HasRestored page old new
  pub log_is : state.log ≡ with_skipped page before.log
  pub outs_are : state.outs ≡ before.outs

-- the copier gave the page back, and listed it as deferred: a lane was full
pub record HasDeferredPage (page : ℕ) (old : CopyFacts) (before : RoundStateView) (new : CopyFacts)
    (state : RoundStateView) : Type 0 where
  pub restored : HasRestored page old new
  pub log_is : state.log ≡ with_deferred page before.log
  pub lanes : map (λ out. out.lane) state.outs ≡ map (λ out. out.lane) before.outs
  pub same : map (λ out. out.sent) state.outs ≡ map (λ out. out.sent) before.outs
  pub crowded : IsCrowded state.outs

-- the copier sent the page, or deferred it
abbrev pub HasOfferedPage : GuestTrace → ℕ → CopyFacts → RoundStateView → CopyFacts → RoundStateView → Type 0
HasOfferedPage trace page old before new state = HasSentPage trace page old before new state
    ⊎ HasDeferredPage page old before new state

-- the seat is the table's, and the state the trace's, with the cache's capacity and a lane for each turn
pub record IsReady (trace : GuestTrace) (table : TableView) (seat : CopyView) (state : RoundStateView) : Type 0 where
  pub table_is : copy_table seat ≡ table
  pub trace_is : state.cache.trace ≡ trace
  pub capacity_is : state.cache.capacity ≡ cache_capacity
  pub lanes : length state.outs ≡ state.turn.streams

-- the copier went on, and what was scanned and posted remains so
pub record KeepsScan (trace : GuestTrace) (skip : Bool) (old : CopyFacts) (before : RoundStateView) (new : CopyFacts)
    (state : RoundStateView) : Type 0 where
  pub number_is : new.number ≡ old.number
  pub scanned : (ahead : ℕ) → IsScanned skip ahead old before.log → IsScanned skip ahead new state.log
  pub posted : (first : List OutView) → IsPosted trace first before.log before.outs
      → IsPosted trace first state.log state.outs

-- the same with one more word scanned
pub record AdvancesScan (trace : GuestTrace) (skip : Bool) (word : ℕ) (old : CopyFacts) (before : RoundStateView)
    (new : CopyFacts) (state : RoundStateView) : Type 0 where
  pub number_is : new.number ≡ old.number
  pub scanned : IsScanned skip word old before.log → IsScanned skip (word + 1) new state.log
  pub posted : (first : List OutView) → IsPosted trace first before.log before.outs
      → IsPosted trace first state.log state.outs

-- the copier with this number has scanned all words, holds nothing, and posted what it sent on its initial lanes
pub record HasCopied (trace : GuestTrace) (skip : Bool) (table : TableView) (number streams : ℕ) (first : List OutView)
    (seat : CopyView) (state : CopierStateView) : Type 0 where
  pub table_is : copy_table seat ≡ table
  pub number_is : seat.facts.number ≡ number
  pub is_state : IsCopierState trace streams state
  pub held : HoldsNone seat.facts
  pub scanned : IsScanned skip (word_count trace.pages) seat.facts state.log
  pub posted : IsPosted trace first state.log state.outs
