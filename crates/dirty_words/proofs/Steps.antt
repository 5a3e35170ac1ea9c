-- Each step keeps the rule, and tells its caller what its play says.
use Rattle.std.proofs.Common.{◌≡◌, ℕ, ◌-◌, ◌*◌, ◌/◌, ◌%◌, ◌^◌, ◌<◌, ◌&&◌, ◌||◌, not, List, [], ◌∷◌, ◌++◌, length, set}
use Rattle.std.proofs.Common.{bit_or, Some, None, refl, sym, ap, subst, ◌∙◌, arith}
use Rattle.std.specs.Prelude.{IsTrue, slice_index}
use mathlib.Core.Option.{some, none}
use lib.ListN.{get_elem?}
use Rattle.std.proofs.lemmas.Bool.{eqb-true, and_parts, and_from}
use Rattle.std.proofs.lemmas.List.{set-get_or}
use Rattle.atomic_table.specs.Table.{State, Me, step, keeps, stepped, Allows}
use Rattle.dirty_core.specs.declared.event.Event.{Event}
use Rattle.dirty_core.specs.declared.event.Event.TheVariants.{Store, Mark, Harvest, Peek, Restore, Read}
use Rattle.page_bitmap.specs.Pages.{in_words, word_pages, bit_pages, common, IsWithin, SamePages}
use Rattle.dirty_core.specs.Start.{Start, IsStart, sizes_of, copier_of, word_copier, GuestOwns, CopierOwns}
use Rattle.dirty_core.specs.Start.{CopierOwnsPage}
use Rattle.dirty_core.specs.Machine.{DirtyCore, with_pending, Needs, after}
use Rattle.dirty_core.specs.Runs.{opened, core_after, place_after, IsVisited, KnowsMark, KnowsPlace, IsReal}
use Rattle.dirty_core.specs.Runs.{IsOverReads}
use Rattle.dirty_core.proofs.EveryPage.{core_after-push, IsLegalFrom-push, OnlyDue-run, KnowsMark-run}
use Rattle.dirty_core.proofs.EveryPlace.{KnowsPlace-run, IsOverReads-run}
use Rattle.dirty_core.proofs.RealPages.{IsReal-run, sizes-core_after}
use Rattle.page_bitmap.proofs.Bits.{added, one_bit, shifted_page_bit}
use Rattle.dirty_core.proofs.Moves.{Needs-store, Needs-mark, Needs-harvest, Needs-peek, Needs-restore, Needs-read}
use Rattle.dirty_words.specs.Facts.{Facts, of_guest, of_copier, GuestFacts, CopyFacts, last_place, OwnsPage, OwnsWord}
use Rattle.dirty_words.specs.Facts.{CopyFits, page_bit, after_store, after_mark, after_harvest, after_peek}
use Rattle.dirty_words.specs.Facts.{after_restore, after_read}
use Rattle.dirty_words.specs.Plays.{guest_in, copier_in, lone_guest, lone_copier, IsAnswer, IsOver, stores, marks}
use Rattle.dirty_words.specs.Plays.{harvests, peeks, restores, reads}
use Rattle.dirty_words.specs.Shows.{place_word, ShowWords, TellsGuest, TellsCopier, Tells, EachView, Shows}
use Rattle.dirty_words.proofs.Seating.{IsSameSeat, EachView-step}
use Rattle.dirty_words.proofs.Words.{ShowWords-store, ShowWords-dirty, cleared, word_marked}
use Rattle.dirty_words.proofs.Told.{Tells-store, Tells-stored, Tells-mark, Tells-marked, Tells-harvest, Tells-harvested}
use Rattle.dirty_words.proofs.Told.{Tells-peeked, Tells-restore, Tells-restored, Tells-read, Tells-reading}

-- the rule after an event of a seat with only one guest or copier
Shows-event : (start : Start) (s : State ℕ (List Facts)) (shows : Shows start s) (word n id : ℕ)
    (carried : List (ℕ × ℕ)) (was is : Facts) (event : Event)
    → get_elem? s.views id ≡ some (was ∷ []) → Needs (core_after start shows.events) event → IsSameSeat was is
    → ShowWords start (set s.words word n) (after (core_after start shows.events) event)
    → Tells start (after (core_after start shows.events) event) is
    → ((other : Facts) → (IsSameSeat was other → ⊥) → Tells start (core_after start shows.events) other
    → Tells start (after (core_after start shows.events) event) other)
    → Shows start (stepped s word n id carried (is ∷ []) keeps)
Shows-event start s shows word n id carried was is event at needs same words told others =
    let core : DirtyCore = core_after start shows.events in
    let push : core_after start (shows.events ++ event ∷ []) ≡ after core event =
    core_after-push (opened start) shows.events event in
    record {
      is_start = shows.is_start;
      events = shows.events ++ event ∷ [];
      legal = IsLegalFrom-push (opened start) shows.events event shows.legal needs;
      words = subst (λ c. ShowWords start (set s.words word n) c) (sym push) words;
      owners = shows.owners;
      views = subst (λ c. EachView (set s.views id (is ∷ [])) shows.owners (Tells start c)) (sym push)
          (EachView-step s.views shows.owners (Tells start core) (Tells start (after core event)) id was is shows.views
          at same told others);
    }

-- ---- what a seat's facts say of the core

-- a page has a word
pub word_low : (start : Start) (page : ℕ) → IsStart start → page < length start.places → page / 64 < length start.dirty
word_low start page is low = let words = is.words in omega arith

-- a word that a copier owns is one of the dirty words
pub own_word_low : (facts : CopyFacts) (word : ℕ) → IsStart facts.start → OwnsWord facts word
    → word < length facts.start.dirty
own_word_low facts word is owns = let words = is.words in let real = owns.word_real in omega arith

core_guest_owns : (start : Start) (core : DirtyCore) (facts : GuestFacts) (page : ℕ) → core.sizes ≡ sizes_of start
    → facts.start ≡ start → OwnsPage facts page
    → GuestOwns core.sizes facts.number page
core_guest_owns start core facts page sizes is owns = subst (λ z. GuestOwns z facts.number page)
    (ap sizes_of is ∙ sym sizes) owns

core_copier_owns : (start : Start) (core : DirtyCore) (facts : CopyFacts) (word : ℕ) → core.sizes ≡ sizes_of start
    → facts.start ≡ start → OwnsWord facts word
    → CopierOwns core.sizes facts.number word
core_copier_owns start core facts word sizes is owns = subst (λ z. CopierOwns z facts.number word)
    (ap sizes_of is ∙ sym sizes) owns

-- the seat's last place is the core's place
last_is_place : (start : Start) (core : DirtyCore) (facts : GuestFacts) (page : ℕ) → TellsGuest start core facts
    → GuestOwns core.sizes facts.number page
    → KnowsPlace start core page → last_place facts page ≡ core.place page
last_is_place start core facts page told owns known =
    ap (λ k. place_after (slice_index k.places page) facts.stores page) told.start_is
    ∙ ap (λ v. place_after (slice_index start.places page) v page) (told.stores ∙ ap core.stores (sym owns.owner))
    ∙ sym known.place

-- ---- a guest's steps

pub store_allowed : (start : Start) (slots id : ℕ) (me : Me ℕ (List Facts)) (page place : ℕ)
    → me ≡ (lone_guest (guest_in me.0), []) → OwnsPage (guest_in me.0) page → (guest_in me.0).pending ≡ None
    → last_place (guest_in me.0) page < place → place < 2 ^ 32
    → Allows (λ s. Shows start s) slots id me (place_word start page) (λ _. place)
    (λ _. stores (step slots (place_word start page) place 0 none) me place)
store_allowed start slots id me page place alone owns free over fits s shows homes at small =
    let facts : GuestFacts = guest_in me.0 in
    let core : DirtyCore = core_after start shows.events in
    let at' : get_elem? s.views id ≡ some (lone_guest facts) = at ∙ ap (λ m. some m.0) alone in
    let told : TellsGuest start core facts = (shows.views id 0 (lone_guest facts) (of_guest facts) at' refl).1 in
    let owned : GuestOwns core.sizes facts.number page =
    core_guest_owns start core facts page (sizes-core_after start shows.events) told.start_is owns in
    let real : page < length start.places = subst (λ k. page < length k.places) told.start_is owns.page_real in
    let known : KnowsPlace start core page = KnowsPlace-run start shows.events shows.legal page in
    let above : core.place page < place = subst (λ n. n < place) (last_is_place start core facts page told owned known)
    over in
    let word : ℕ = place_word start page in
    let same : word - length facts.start.dirty ≡ page = let d : length facts.start.dirty ≡ length start.dirty =
    ap (λ k. length k.dirty) told.start_is in omega arith in (
      lone_guest (after_store (word - length facts.start.dirty) place facts),
      keeps,
      tt,
      subst (λ p. Shows start (stepped s word place id me.1 (lone_guest (after_store p place facts)) keeps)) (sym same)
          (Shows-event start s shows word place id me.1 (of_guest facts) (of_guest (after_store page place facts))
          (Store facts.number page place) at'
          (Needs-store core facts.number page place owned (sym told.pending ∙ free) above) refl
          (ShowWords-store start s.words core facts.number page place shows.words real fits)
          (Tells-stored start core facts page place told)
          (λ other apart t. Tells-store start core facts page place other owned apart t)),
      refl,
    )

pub mark_allowed : (start : Start) (slots id : ℕ) (me : Me ℕ (List Facts)) (page : ℕ)
    → me ≡ (lone_guest (guest_in me.0), []) → OwnsPage (guest_in me.0) page → (guest_in me.0).pending ≡ Some page
    → Allows (λ s. Shows start s) slots id me (page / 64) (λ n. bit_or n
    (1 * 2 ^ (page % 64) % 18_446_744_073_709_551_616))
    (marks (step slots (page / 64) (1 * 2 ^ (page % 64) % 18_446_744_073_709_551_616) 0 none) me)
mark_allowed start slots id me page alone owns is s shows homes at small =
    let facts : GuestFacts = guest_in me.0 in
    let core : DirtyCore = core_after start shows.events in
    let at' : get_elem? s.views id ≡ some (lone_guest facts) = at ∙ ap (λ m. some m.0) alone in
    let told : TellsGuest start core facts = (shows.views id 0 (lone_guest facts) (of_guest facts) at' refl).1 in
    let owned : GuestOwns core.sizes facts.number page =
    core_guest_owns start core facts page (sizes-core_after start shows.events) told.start_is owns in
    let real : page < length start.places = subst (λ k. page < length k.places) told.start_is owns.page_real in
    let low : page / 64 < length start.dirty = word_low start page shows.is_start real in
    let within : page / 64 < length s.words = let sized = shows.words.sized in omega arith in
    let pending : core.pending facts.number ≡ Some page = sym told.pending ∙ is in
    let bit : ℕ = 1 * 2 ^ (page % 64) % 18_446_744_073_709_551_616 in
    let new : ℕ = bit_or (slice_index s.words (page / 64)) bit in (
      lone_guest (after_mark facts),
      keeps,
      tt,
      Shows-event start s shows (page / 64) new id me.1 (of_guest facts) (of_guest (after_mark facts))
          (Mark facts.number) at'
          (Needs-mark core facts.number owned.guest_real (rw pending refl)) refl
          (ShowWords-dirty start s.words core (after core (Mark facts.number)) (page / 64) new shows.words low
          (λ q q_low. added s.words (page / 64) bit q within
          ∙ ap (λ b. b || bit_pages (page / 64) bit q) (shows.words.marked q q_low)
          ∙ ap (λ b. core.marked q || b) (one_bit page q) ∙ sym (ap (λ o. with_pending core.marked o q) pending))
          (λ q. refl))
          (Tells-marked start core facts told)
          (λ other apart t. Tells-mark start core facts other apart t),
      refl,
    )

-- ---- a copier's steps

-- what an answer is: the word's marked pages, the returned ones among them
answered : (start : Start) (core : DirtyCore) (facts : CopyFacts) (word answer : ℕ) → core.sizes ≡ sizes_of start
    → TellsCopier start core facts
    → CopierOwns core.sizes facts.number word → ((page : ℕ) → KnowsMark core page) → ((page : ℕ) → IsReal core page)
    → SamePages (bit_pages word answer) (common (word_pages word) core.marked) → answer < 2 ^ 64
    → IsAnswer facts word answer
answered start core facts word answer sizes told owned knows real is fits = record {
  fits = fits;
  returned = λ page both.
      let parts = and_parts _ _ both in
      let own : copier_of core.sizes page ≡ facts.number = ap (word_copier core.sizes) (eqb-true _ _ parts.0)
      ∙ owned.owner in
      is page ∙ and_from _ _ parts.0 ((knows page).returned (sym (told.returned page own) ∙ parts.1));
  real = λ page shown.
      let low : page < core.sizes.pages = (real page).marked
      (and_parts (word_pages word page) (core.marked page) (sym (is page) ∙ shown)).1 in
      let pages : core.sizes.pages ≡ length facts.start.places = ap (λ z. z.pages) sizes
      ∙ ap (λ k. length k.places) (sym told.start_is) in
      omega (arith, low, pages);
}

-- what a copier finds at a step on a word that it owns
record CopierFinds (start : Start) (s : State ℕ (List Facts)) (core : DirtyCore) (id : ℕ) (facts : CopyFacts)
    (word : ℕ) : Type 0 where
  at : get_elem? s.views id ≡ some (lone_copier facts)
  sizes : core.sizes ≡ sizes_of start
  told : TellsCopier start core facts
  owned : CopierOwns core.sizes facts.number word
  within : word < length s.words
  held : word < length facts.held
  returned : word < length facts.returned
  fresh : word < length facts.fresh

copier_finds : (start : Start) (s : State ℕ (List Facts)) (shows : Shows start s) (id : ℕ) (me : Me ℕ (List Facts))
    (word : ℕ)
    → me ≡ (lone_copier (copier_in me.0), []) → OwnsWord (copier_in me.0) word → word < length start.dirty
    → CopyFits (copier_in me.0) → get_elem? s.views id ≡ some me.0
    → CopierFinds start s (core_after start shows.events) id (copier_in me.0) word
copier_finds start s shows id me word alone owns low fits at =
    let facts : CopyFacts = copier_in me.0 in
    let core : DirtyCore = core_after start shows.events in
    let sizes : core.sizes ≡ sizes_of start = sizes-core_after start shows.events in
    let at' : get_elem? s.views id ≡ some (lone_copier facts) = at ∙ ap (λ m. some m.0) alone in
    let told : TellsCopier start core facts = (shows.views id 0 (lone_copier facts) (of_copier facts) at' refl).1 in
    let words : length facts.start.dirty ≡ length start.dirty = ap (λ k. length k.dirty) told.start_is in
    record {
      at = at';
      sizes = sizes;
      told = told;
      owned = core_copier_owns start core facts word sizes told.start_is owns;
      within = let sized = shows.words.sized in omega arith;
      held = let n = fits.held_words in omega arith;
      returned = let n = fits.returned_words in omega arith;
      fresh = let n = fits.fresh_words in omega arith;
    }

pub harvest_allowed : (start : Start) (slots id : ℕ) (me : Me ℕ (List Facts)) (word : ℕ)
    → me ≡ (lone_copier (copier_in me.0), []) → OwnsWord (copier_in me.0) word → word < length start.dirty
    → CopyFits (copier_in me.0)
    → Allows (λ s. Shows start s) slots id me word (λ _. 0) (harvests (step slots word 0 0 none) me)
harvest_allowed start slots id me word alone owns low fits s shows homes at small =
    let facts : CopyFacts = copier_in me.0 in
    let core : DirtyCore = core_after start shows.events in
    let found = copier_finds start s shows id me word alone owns low fits at in
    let answer : ℕ = slice_index s.words word in
    let is : SamePages (bit_pages word answer) (common (word_pages word) core.marked) =
    word_marked s.words core.marked word (λ page e. shows.words.marked page (omega arith)) in (
      lone_copier (after_harvest word answer facts),
      keeps,
      tt,
      Shows-event start s shows word 0 id me.1 (of_copier facts) (of_copier (after_harvest word answer facts))
          (Harvest facts.number word) found.at
          (Needs-harvest core facts.number word found.owned) refl
          (ShowWords-dirty start s.words core (after core (Harvest facts.number word)) word 0 shows.words low
          (λ q q_low. cleared s.words word q found.within ∙ ap (λ b. b && not (word_pages word q))
          (shows.words.marked q q_low))
          (λ q. refl))
          (Tells-harvested start core facts word answer found.owned found.held found.returned found.fresh
          (OnlyDue-run start shows.events shows.legal) found.told is)
          (λ other apart t. Tells-harvest start core facts word other found.owned apart t),
      (
        refl,
        answered start core facts word answer found.sizes found.told found.owned
            (KnowsMark-run start shows.events shows.legal)
            (IsReal-run start shows.events shows.is_start shows.legal) is small,
      ),
    )

-- a load writes the word back
ShowWords-same : (start : Start) (words : List ℕ) (core : DirtyCore) (word : ℕ) → ShowWords start words core
    → ShowWords start (set words word (slice_index words word)) core
ShowWords-same start words core word shown = subst (λ ws. ShowWords start ws core) (sym (set-get_or words word 0)) shown

pub peek_allowed : (start : Start) (slots id : ℕ) (me : Me ℕ (List Facts)) (word : ℕ)
    → me ≡ (lone_copier (copier_in me.0), []) → OwnsWord (copier_in me.0) word → word < length start.dirty
    → CopyFits (copier_in me.0)
    → Allows (λ s. Shows start s) slots id me word (λ n. n) (peeks (step slots word 0 0 none) me)
peek_allowed start slots id me word alone owns low fits s shows homes at small =
    let facts : CopyFacts = copier_in me.0 in
    let core : DirtyCore = core_after start shows.events in
    let found = copier_finds start s shows id me word alone owns low fits at in
    let answer : ℕ = slice_index s.words word in
    let is : SamePages (bit_pages word answer) (common (word_pages word) core.marked) =
    word_marked s.words core.marked word (λ page e. shows.words.marked page (omega arith)) in (
      lone_copier (after_peek word answer facts),
      keeps,
      tt,
      Shows-event start s shows word answer id me.1 (of_copier facts) (of_copier (after_peek word answer facts))
          (Peek facts.number word) found.at
          (Needs-peek core facts.number word found.owned) refl
          (ShowWords-same start s.words core word shows.words)
          (Tells-peeked start core facts word answer found.owned found.fresh
          (OnlyDue-run start shows.events shows.legal) found.told is)
          (λ other apart t. t),
      (
        refl,
        answered start core facts word answer found.sizes found.told found.owned
            (KnowsMark-run start shows.events shows.legal)
            (IsReal-run start shows.events shows.is_start shows.legal) is small,
      ),
    )

pub restore_allowed : (start : Start) (slots id : ℕ) (me : Me ℕ (List Facts)) (word bits : ℕ)
    → me ≡ (lone_copier (copier_in me.0), []) → OwnsWord (copier_in me.0) word → word < length start.dirty
    → bits < 2 ^ 64
    → IsWithin (bit_pages word bits) (in_words (copier_in me.0).held) → CopyFits (copier_in me.0)
    → Allows (λ s. Shows start s) slots id me word (λ n. bit_or n bits) (restores (step slots word bits 0 none) me)
restore_allowed start slots id me word bits alone owns low small_bits held fits s shows homes at small =
    let facts : CopyFacts = copier_in me.0 in
    let core : DirtyCore = core_after start shows.events in
    let found = copier_finds start s shows id me word alone owns low fits at in
    let new : ℕ = bit_or (slice_index s.words word) bits in (
      lone_copier (after_restore word bits facts),
      keeps,
      tt,
      Shows-event start s shows word new id me.1 (of_copier facts) (of_copier (after_restore word bits facts))
          (Restore facts.number word bits) found.at
          (Needs-restore core facts.number word bits found.owned
          (λ page told_bit. sym (found.told.held page) ∙ held page told_bit)) refl
          (ShowWords-dirty start s.words core (after core (Restore facts.number word bits)) word new shows.words low
          (λ q q_low. added s.words word bits q found.within ∙ ap (λ b. b || bit_pages word bits q)
          (shows.words.marked q q_low))
          (λ q. refl))
          (Tells-restored start core facts word bits found.held found.returned small_bits found.told)
          (λ other apart t. Tells-restore start core facts word bits other found.owned apart t),
      refl,
    )

-- the place that a read returns is no less than what the seat knows
over_reads : (start : Start) (core : DirtyCore) (facts : CopyFacts) (page place : ℕ) → TellsCopier start core facts
    → copier_of core.sizes page ≡ facts.number → IsOverReads start core page → place ≡ core.place page → place < 2 ^ 32
    → IsOver facts page place
over_reads start core facts page place told own over is fits = record {
  fits = fits;
  opening =
      let low = over.opening in
      let same : slice_index facts.start.places page ≡ slice_index start.places page =
      ap (λ k. slice_index k.places page) told.start_is in
      omega (arith, low, is, same);
  reads = λ earlier visited.
      let low = over.read earlier (subst (λ v. IsVisited v page earlier) (told.reads ∙ ap core.reads (sym own))
      visited) in
      omega (arith, low, is);
}

pub page_bit_fits : (page : ℕ) → page_bit page < 2 ^ 64
page_bit_fits page = subst (λ n. n < 2 ^ 64) (shifted_page_bit page) (omega arith)

pub read_allowed : (start : Start) (slots id : ℕ) (me : Me ℕ (List Facts)) (page : ℕ)
    → me ≡ (lone_copier (copier_in me.0), []) → IsTrue (in_words (copier_in me.0).held page) → CopyFits (copier_in me.0)
    → Allows (λ s. Shows start s) slots id me (place_word start page) (λ n. n)
    (reads (step slots (place_word start page) 0 0 none) me)
read_allowed start slots id me page alone held fits s shows homes at small =
    let facts : CopyFacts = copier_in me.0 in
    let core : DirtyCore = core_after start shows.events in
    let sizes : core.sizes ≡ sizes_of start = sizes-core_after start shows.events in
    let at' : get_elem? s.views id ≡ some (lone_copier facts) = at ∙ ap (λ m. some m.0) alone in
    let told : TellsCopier start core facts = (shows.views id 0 (lone_copier facts) (of_copier facts) at' refl).1 in
    let own : CopierOwnsPage core.sizes facts.number page =
    subst (λ z. CopierOwnsPage z facts.number page) (ap sizes_of told.start_is ∙ sym sizes) (fits.held page held) in
    let real : page < length start.places = let low = own.page_real in let e : core.sizes.pages ≡ length start.places =
    ap (λ z. z.pages) sizes in omega (arith, low, e) in
    let words : length facts.start.dirty ≡ length start.dirty = ap (λ k. length k.dirty) told.start_is in
    let low : page / 64 < length start.dirty = word_low start page shows.is_start real in
    let in_held : page / 64 < length facts.held = let n = fits.held_words in omega arith in
    let word : ℕ = place_word start page in
    let place : ℕ = slice_index s.words word in
    let is : place ≡ core.place page = shows.words.place page real in
    let place_fits : place < 2 ^ 32 = let n = shows.words.small page real in omega (arith, is, n) in
    let same : word - length facts.start.dirty ≡ page = omega arith in
    let told_over : IsOver facts page place =
    over_reads start core facts page place told own.word.owner (IsOverReads-run start shows.events shows.legal page) is
    place_fits in (
      lone_copier (after_read (word - length facts.start.dirty) place facts),
      keeps,
      tt,
      subst (λ p. Shows start (stepped s word place id me.1 (lone_copier (after_read p place facts)) keeps)) (sym same)
          (Shows-event start s shows word place id me.1 (of_copier facts) (of_copier (after_read page place facts))
          (Read facts.number page) at'
          (Needs-read core facts.number page own (sym (told.held page) ∙ held)) refl
          (let shown = ShowWords-same start s.words core word shows.words in
          record { sized = shown.sized; marked = shown.marked; place = shown.place; small = shown.small })
          (Tells-reading start core facts page place in_held (page_bit_fits page) is told)
          (λ other apart t. Tells-read start core facts page other apart t)),
      (refl, subst (λ p. IsOver facts p place) (sym same) told_over),
    )
