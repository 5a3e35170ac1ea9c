-- A page that a copier sent, skipped or deferred.
use Rattle.std.specs.Prelude.{Result, Ok, Err, OnOk}
use Rattle.std.proofs.Common.{◌≡◌, inl, inr, ℕ, ◌+◌, ◌/◌, Bool, true, false, List, length, refl, sym, ap, subst, ◌∙◌}
use Rattle.migration_model.specs.Trace.{GuestTrace}
use Rattle.page_bitmap.specs.Pages.{in_words, one_page, bit_pages, word_pages, minus, union, SamePages}
use Rattle.page_bitmap.proofs.Bits.{no_words}
use Rattle.dirty_words.specs.Facts.{CopyFacts, HoldsNone, first_copier, OwnsWord, after_harvest, after_read, after_peek}
use Rattle.dirty_words.specs.Facts.{after_restore}
use Rattle.dirty_core.specs.Start.{Start}
use Rattle.dirty_words.specs.Plays.{IsAnswer, MakesFresh}
use Rattle.stream_lanes.specs.Ends.{OutView}
use Rattle.live_tasks.specs.RoundLogs.{RoundLogView, empty_log, with_sent, with_skipped, IsPosted}
use Rattle.live_tasks.specs.CopierStates.{RoundStateView}
use Rattle.live_tasks.specs.Scans.{IsScanned, IsLeast}
use Rattle.live_tasks.specs.Copies.{HasDeferredPage, HasOfferedPage, HasPeeked, HasSentPage, HasSkippedPage, KeepsScan}
use Rattle.live_tasks.specs.Copies.{KeepsSent, AdvancesScan}
use Rattle.live_tasks.proofs.Scanning.{scan_begins, scan_defers, scan_passes, scan_harvests, scan_sends, scan_skips}
use Rattle.live_tasks.proofs.Scanning.{scan_peeks, shown_is_fresh}
use Rattle.live_tasks.proofs.Posting.{posting_begins, posts_deferred, posts_sent, posts_skipped, sends_after}

-- ---- a page is offered

pub offers_sent : (trace : GuestTrace) (page : ℕ) (f new : CopyFacts) (before looked after : RoundStateView)
    → looked.log ≡ before.log → KeepsSent before.outs looked.outs
    → HasSentPage trace page f looked new after → HasOfferedPage trace page f before new after
offers_sent trace page f new before looked after same keeps is = inl (record {
  place = is.place;
  text = is.text;
  spells = is.spells;
  facts = is.facts;
  log_is = is.log_is ∙ ap (with_sent page is.place) same;
  sends = sends_after is.text before.outs looked.outs after.outs keeps is.sends;
  held = is.held;
})

copies_sent : (trace : GuestTrace) (skip : Bool) (page : ℕ) (f new : CopyFacts) (before after : RoundStateView)
    → IsLeast f page
    → HasSentPage trace page f before new after → KeepsScan trace skip f before new after
copies_sent trace skip page f new before after least is =
    let left : CopyFacts = after_read page is.place f in
    let same : SamePages (in_words left.held) (minus (in_words f.held) (one_page page)) =
    subst (λ (n : CopyFacts). SamePages (in_words n.held) (minus (in_words f.held) (one_page page))) is.facts is.held in
    record {
      number_is = ap (λ (n : CopyFacts). n.number) is.facts;
      scanned = λ ahead scan. subst (λ (n : CopyFacts). IsScanned skip ahead n after.log) (sym is.facts)
          (subst (λ (b : RoundLogView). IsScanned skip ahead left b) (sym is.log_is)
          (scan_sends skip ahead page is.place f before.log scan least same));
      posted = λ first posted. subst (λ (b : RoundLogView). IsPosted trace first b after.outs) (sym is.log_is)
          (posts_sent trace page is.place is.text first before.outs after.outs before.log is.spells is.sends posted);
    }

copies_deferred : (trace : GuestTrace) (skip : Bool) (page : ℕ) (f new : CopyFacts) (before after : RoundStateView)
    → IsLeast f page
    → HasDeferredPage page f before new after → KeepsScan trace skip f before new after
copies_deferred trace skip page f new before after least is =
    let left : CopyFacts = after_restore (page / 64) is.restored.bits f in
    let held : SamePages (in_words left.held) (minus (in_words f.held) (one_page page)) =
    subst (λ (n : CopyFacts). SamePages (in_words n.held) (minus (in_words f.held) (one_page page))) is.restored.facts
    is.restored.held in
    let returned : SamePages (in_words left.returned) (union (in_words f.returned) (one_page page)) =
    subst (λ (n : CopyFacts). SamePages (in_words n.returned) (union (in_words f.returned) (one_page page)))
    is.restored.facts is.restored.returned in
    record {
      number_is = ap (λ (n : CopyFacts). n.number) is.restored.facts;
      scanned = λ ahead scan. subst (λ (n : CopyFacts). IsScanned skip ahead n after.log) (sym is.restored.facts)
          (subst (λ (b : RoundLogView). IsScanned skip ahead left b) (sym is.log_is)
          (scan_defers skip ahead page (page / 64) is.restored.bits f before.log scan least held returned));
      posted = λ first posted. subst (λ (b : RoundLogView). IsPosted trace first b after.outs) (sym is.log_is)
          (posts_deferred trace page first before.outs after.outs before.log is.lanes is.same is.crowded posted);
    }

pub copies_offered : (trace : GuestTrace) (skip : Bool) (page : ℕ) (f new : CopyFacts) (before after : RoundStateView)
    → IsLeast f page
    → HasOfferedPage trace page f before new after → KeepsScan trace skip f before new after
copies_offered trace skip page f new before after least (inl is) =
    copies_sent trace skip page f new before after least is
copies_offered trace skip page f new before after least (inr is) =
    copies_deferred trace skip page f new before after least is

-- ---- after a look at the word

-- what a look at the word leaves
peeked_least : (page answer : ℕ) (f : CopyFacts) → IsLeast f page → IsLeast (after_peek (page / 64) answer f) page
peeked_least page answer f least = least

pub copies_unmarked : (trace : GuestTrace) (skip : Bool) (page : ℕ) (f peeked new : CopyFacts)
    (before after : RoundStateView) → IsLeast f page
    → HasPeeked page false f peeked → HasOfferedPage trace page peeked before new after
    → KeepsScan trace skip f before new after
copies_unmarked trace skip page f peeked new before after least looked is =
    let seen : CopyFacts = after_peek (page / 64) looked.answer f in
    let offered : HasOfferedPage trace page seen before new after =
    subst (λ (p : CopyFacts). HasOfferedPage trace page p before new after) looked.facts is in
    let all = copies_offered trace skip page seen new before after (peeked_least page looked.answer f least) offered in
    let kept = subst (λ (p : CopyFacts). MakesFresh f (page / 64) looked.answer p) looked.facts looked.shown in
    record {
      number_is = all.number_is;
      scanned = λ ahead scan. all.scanned ahead (scan_peeks skip ahead (page / 64) looked.answer f before.log scan
          kept.kept);
      posted = all.posted;
    }

pub copies_skipped : (trace : GuestTrace) (page : ℕ) (f peeked new : CopyFacts) (before after : RoundStateView)
    → IsLeast f page
    → HasPeeked page true f peeked → HasSkippedPage page peeked before new after
    → KeepsScan trace true f before new after
copies_skipped trace page f peeked new before after least looked is =
    let seen : CopyFacts = after_peek (page / 64) looked.answer f in
    let skips : HasSkippedPage page seen before new after = subst
    (λ (p : CopyFacts). HasSkippedPage page p before new after) looked.facts is in
    let shown : MakesFresh f (page / 64) looked.answer seen = subst
    (λ (p : CopyFacts). MakesFresh f (page / 64) looked.answer p) looked.facts looked.shown in
    let left : CopyFacts = after_restore (page / 64) skips.restored.bits seen in
    let held : SamePages (in_words left.held) (minus (in_words seen.held) (one_page page)) =
    subst (λ (n : CopyFacts). SamePages (in_words n.held) (minus (in_words seen.held) (one_page page)))
    skips.restored.facts skips.restored.held in
    let returned : SamePages (in_words left.returned) (union (in_words seen.returned) (one_page page)) =
    subst (λ (n : CopyFacts). SamePages (in_words n.returned) (union (in_words seen.returned) (one_page page)))
    skips.restored.facts skips.restored.returned in
    record {
      number_is = ap (λ (n : CopyFacts). n.number) skips.restored.facts;
      scanned = λ ahead scan.
          let fresh = shown_is_fresh true ahead page looked.answer f before.log scan least.0 looked.shows_is shown in
          let scan_after = scan_peeks true ahead (page / 64) looked.answer f before.log scan shown.kept in
          subst (λ (n : CopyFacts). IsScanned true ahead n after.log) (sym skips.restored.facts)
          (subst (λ (b : RoundLogView). IsScanned true ahead left b) (sym skips.log_is)
          (scan_skips ahead page (page / 64) skips.restored.bits seen before.log scan_after least fresh held returned));
      posted = λ first posted. subst (λ (b : RoundLogView). IsPosted trace first b after.outs) (sym skips.log_is)
          (subst (λ (outs : List OutView). IsPosted trace first (with_skipped page before.log) outs)
          (sym skips.outs_are)
          (posts_skipped trace page first before.outs before.log posted));
    }

-- ---- one step after another

pub keeps_both : (trace : GuestTrace) (skip : Bool) (f g h : CopyFacts) (before middle after : RoundStateView)
    → KeepsScan trace skip f before g middle
    → KeepsScan trace skip g middle h after → KeepsScan trace skip f before h after
keeps_both trace skip f g h before middle after one two = record {
  number_is = two.number_is ∙ one.number_is;
  scanned = λ ahead is. two.scanned ahead (one.scanned ahead is);
  posted = λ first is. two.posted first (one.posted first is);
}

pub advances_past : (trace : GuestTrace) (skip : Bool) (word : ℕ) (f : CopyFacts) (state : RoundStateView)
    → (OwnsWord f word → ⊥) → AdvancesScan trace skip word f state f state
advances_past trace skip word f state other = record {
  number_is = refl;
  scanned = λ is. scan_passes skip word f state.log is other;
  posted = λ first is. is;
}

pub advances_own : (trace : GuestTrace) (skip : Bool) (word answer : ℕ) (f harvested new : CopyFacts)
    (before after : RoundStateView) → HoldsNone f → OwnsWord f word
    → harvested ≡ after_harvest word answer f → IsAnswer f word answer → MakesFresh f word answer harvested
    → SamePages (in_words harvested.held) (bit_pages word answer)
    → SamePages (in_words harvested.returned) (minus (in_words f.returned) (word_pages word))
    → KeepsScan trace skip harvested before new after → AdvancesScan trace skip word f before new after
advances_own trace skip word answer f harvested new before after none own facts answers shown held left keeps =
    let scan : IsScanned skip word f before.log → IsScanned skip (word + 1) harvested before.log = λ is.
    subst (λ (h : CopyFacts). IsScanned skip (word + 1) h before.log) (sym facts)
    (scan_harvests skip word answer f before.log is none own answers
    (subst (λ (h : CopyFacts). MakesFresh f word answer h) facts shown)
    (subst (λ (h : CopyFacts). SamePages (in_words h.held) (bit_pages word answer)) facts held)
    (subst (λ (h : CopyFacts). SamePages (in_words h.returned) (minus (in_words f.returned) (word_pages word))) facts
    left)) in
    record {
      number_is = keeps.number_is ∙ ap (λ (h : CopyFacts). h.number) facts;
      scanned = λ is. keeps.scanned (word + 1) (scan is);
      posted = keeps.posted;
    }

-- ---- the whole round

pub copy_begins : (trace : GuestTrace) (skip : Bool) (start : Start) (number : ℕ) (f : CopyFacts)
    (first outs : List OutView) (o : RoundLogView) → f ≡ first_copier start number
    → o ≡ empty_log → outs ≡ first → IsScanned skip 0 f o × HoldsNone f × IsPosted trace first o outs
copy_begins trace skip start number f first outs o facts nothing same = (
  subst (λ (g : CopyFacts). IsScanned skip 0 g o) (sym facts)
      (subst (λ (b : RoundLogView). IsScanned skip 0 (first_copier start number) b) (sym nothing)
      (scan_begins skip start number)),
  subst (λ (g : CopyFacts). HoldsNone g) (sym facts) (λ page. no_words (length start.dirty) page),
  subst (λ (b : RoundLogView). IsPosted trace first b outs) (sym nothing)
      (subst (λ (l : List OutView). IsPosted trace first empty_log l) (sym same) (posting_begins trace first)),
)

-- a fact on success that follows from another
pub on_ok : {X E P Q : Type 0} (r : Result X E) → (P → Q) → OnOk r P → OnOk r Q
on_ok (Ok x) follows holds = follows holds
on_ok (Err e) follows holds = tt
