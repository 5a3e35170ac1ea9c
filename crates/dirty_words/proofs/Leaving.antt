-- What the last state of a table, with all seats joined in one, says of the words and of what the seats know.
use Rattle.std.proofs.Common.{◌≡◌, ℕ, zero, suc, ◌+◌, ◌/◌, ◌%◌, ◌^◌, ◌<◌, Bool, true, false, eqb, List, [], ◌∷◌, ◌++◌}
use Rattle.std.proofs.Common.{map, length, get_or, Some, None, sym, ap, subst, ◌∙◌, arith, inl, inr}
use Rattle.std.proofs.lemmas.Option.{slice_get-get_or}
use Rattle.std.specs.Prelude.{All, is_some, slice_index, slice_get}
use Rattle.std.specs.Int.{bit_at}
use mathlib.Core.Option.{some}
use lib.ListN.{get_elem?}
use Rattle.std.proofs.lemmas.Bool.{cases_lt, cases_Bool}
use Rattle.std.proofs.lemmas.List.{get_or_past}
use Rattle.std.proofs.lemmas.Nat.Bits.{bit_at-zero}
use Rattle.atomic_table.specs.Table.{State, Final, Seen}
use Rattle.page_bitmap.specs.Pages.{in_words}
use Rattle.dirty_core.specs.Start.{Start, IsStart, start_with, sizes_of, guest_of, copier_of}
use Rattle.dirty_core.specs.Machine.{DirtyCore, last_visit, is_stored}
use Rattle.dirty_core.specs.Runs.{core_after, IsCaughtUp, IsOnlyDue, KnowsMark, KnowsPlace, IsOverReads, IsReal}
use Rattle.dirty_core.specs.Runs.{place_after, Rises, IsVisited}
use Rattle.dirty_core.proofs.EveryPage.{either, cases_four, no_page_is, CaughtUp-run, OnlyDue-run, KnowsMark-run}
use Rattle.dirty_core.proofs.EveryPlace.{KnowsPlace-run, IsOverReads-run}
use Rattle.dirty_core.proofs.RealPages.{IsReal-run, sizes-core_after, at_opening-core_after}
use Rattle.dirty_words.specs.Facts.{Facts, of_guest, of_copier, GuestFacts, CopyFacts, HoldsNone}
use Rattle.dirty_words.specs.Shows.{place_word, ShowWords, TellsGuest, TellsCopier, Shows}
use Rattle.dirty_words.specs.Seats.{TableView, GuestView, CopyView, ClosedView, closed_view}
use Rattle.dirty_words.specs.Closing.{AllGuests, AllCopiers, IsLeft, IsLeftByEvents, PageLeft, EachPageLeft}

-- ---- the words read back

pub IsLeft-words : (start : Start) (words : List ℕ) (core : DirtyCore) (versions dirty : List ℕ) → IsStart start
    → ShowWords start words core
    → core.sizes ≡ sizes_of start → ((page : ℕ) → IsReal core page)
    → length versions ≡ length start.places → ((page : ℕ) → page < length start.places
    → get_or versions page 0 ≡ get_or words (place_word start page) 0)
    → length dirty ≡ length start.dirty → ((word : ℕ) → word < length start.dirty
    → get_or dirty word 0 ≡ get_or words word 0)
    → IsLeft start core (closed_view versions dirty)
IsLeft-words start words core versions dirty is_start shown sizes real versions_len versions_are dirty_len dirty_are =
    record {
      versions = versions_len;
      words = dirty_len;
      place = λ page low. versions_are page low ∙ shown.place page low;
      marked = λ page. elim (cases_lt (page / 64) (length start.dirty)) [
        | inl low ↦ ap (λ n. eqb (bit_at n (page % 64)) 1) (dirty_are (page / 64) low) ∙ shown.marked page low
        | inr past ↦
            let none : in_words dirty page ≡ false =
            ap (λ n. eqb (bit_at n (page % 64)) 1) (get_or_past dirty (page / 64) 0 (omega (arith, past, dirty_len)))
            ∙ ap (λ n. eqb n 1) (bit_at-zero (page % 64)) in
            elim (cases_Bool (core.marked page)) [
              | inl marked ↦ absurd (
                  let low = (real page).marked marked in
                  let pages : core.sizes.pages ≡ length start.places = ap (λ z. z.pages) sizes in
                  let rule = is_start.words in
                  omega (arith, low, pages, rule, past))
              | inr not_marked ↦ none ∙ sym not_marked
            ]
      ];
    }

-- ---- what each seat knows, of those in one view

entry_there : {A : Type 0} (f : A → Facts) (xs : List A) (others : List Facts) (i : ℕ) (x : A) → slice_get xs i ≡ Some x
    → get_elem? (map f xs ++ others) i ≡ some (f x)
entry_there f [] others i x e = absurd cc
entry_there f (y ∷ ys) others zero x e = let same : y ≡ x = cc in ap (λ z. some (f z)) same
entry_there f (y ∷ ys) others (suc i) x e = entry_there f ys others i x e

entry_later : (xs ys : List Facts) (i : ℕ) → get_elem? (xs ++ ys) (length xs + i) ≡ get_elem? ys i
entry_later [] ys i = let e : 0 + i ≡ i = omega arith in ap (get_elem? ys) e
entry_later (x ∷ xs) ys i = let e : length (x ∷ xs) + i ≡ suc (length xs + i) =
    omega arith in ap (get_elem? (x ∷ xs ++ ys)) e ∙ entry_later xs ys i

copier_there : {A : Type 0} (f : A → Facts) (xs : List A) (before : List Facts) (i : ℕ) (x : A)
    → slice_get xs i ≡ Some x
    → get_elem? (before ++ map f xs) (length before + i) ≡ some (f x)
copier_there f [] before i x e = absurd cc
copier_there f (y ∷ ys) before zero x e = entry_later before (f y ∷ map f ys) 0
    ∙ (let same : y ≡ x = cc in ap (λ z. some (f z)) same)
copier_there f (y ∷ ys) before (suc i) x e = entry_later before (f y ∷ map f ys) (suc i) ∙ at_i f ys i x e
  where
    at_i : {A : Type 0} (f : A → Facts) (xs : List A) (i : ℕ) (x : A) → slice_get xs i ≡ Some x
        → get_elem? (map f xs) i ≡ some (f x)
    at_i f [] i x e = absurd cc
    at_i f (y ∷ ys) zero x e = let same : y ≡ x = cc in ap (λ z. some (f z)) same
    at_i f (y ∷ ys) (suc i) x e = at_i f ys i x e

-- ---- one page, by what its guest and its copier know

pub PageLeft-core : (start : Start) (core : DirtyCore) (guest : GuestFacts) (copier : CopyFacts) (closed : ClosedView)
    (page : ℕ)
    → page < length start.places → IsLeft start core closed → TellsGuest start core guest
    → TellsCopier start core copier
    → guest_of core.sizes page ≡ guest.number → copier_of core.sizes page ≡ copier.number → guest.pending ≡ None
    → HoldsNone copier
    → (core.at_opening page ≡ in_words start.dirty page) → IsCaughtUp core page → IsOnlyDue core page
    → KnowsMark core page → KnowsPlace start core page → IsOverReads start core page
    → PageLeft start guest copier closed page
PageLeft-core start core guest copier closed page low left g c own_guest own_copier idle none at_opening caught_up
    only_due mark place over =
    let stores : core.stores (guest_of core.sizes page) ≡ guest.stores = ap core.stores own_guest ∙ sym g.stores in
    let reads : core.reads (copier_of core.sizes page) ≡ copier.reads = ap core.reads own_copier ∙ sym c.reads in
    let stored : is_stored core page ≡ is_some (last_visit guest.stores page) =
    ap (λ v. is_some (last_visit v page)) stores in
    let version = left.place page low in
    let returned : in_words copier.returned page ≡ core.returned page = c.returned page own_copier in
    record {
      version =
          version ∙ place.place ∙ ap (λ v. place_after (slice_index start.places page) v page) stores
          ∙ ap (λ k. place_after (slice_index k.places page) guest.stores page) (sym g.start_is);
      rises = subst (λ v. Rises (slice_index start.places page) v page) stores place.rises;
      caught_up = λ before.
          cases_four
          (λ marked. inl (left.marked page ∙ marked))
          (λ held. absurd (not_both (core.held copier.number page) (ap (λ n. core.held n page) (sym own_copier) ∙ held)
          (sym (c.held page) ∙ none page)))
          (λ pending. absurd (no_page_is (core.pending guest.number) page (sym g.pending ∙ idle)
          (ap core.pending (sym own_guest) ∙ pending)))
          (λ read. inr (ap (λ v. last_visit v page) (sym reads) ∙ read ∙ ap Some (sym version)))
          (caught_up (either (λ opening. inl (at_opening ∙ opening)) (λ was. inr (stored ∙ was)) before));
      only_due = λ marked.
          either (λ was. inl (sym stored ∙ was)) (λ back. inr (returned ∙ back))
          (only_due (sym (left.marked page) ∙ marked));
      returned = λ back. left.marked page ∙ mark.returned (sym returned ∙ back);
      fresh = λ shown. sym stored ∙ c.fresh page shown;
      read = λ n visited.
          either (λ same. inl same) (λ was. inr (subst (λ v. IsVisited v page n) stores was))
          (place.read n (subst (λ v. IsVisited v page n) (sym reads) visited));
      over = λ n visited. let bound = over.read n (subst (λ v. IsVisited v page n) (sym reads) visited) in omega
          (arith, bound, version);
    }
  where
    not_both : (b : Bool) → b ≡ true → b ≡ false → ⊥
    not_both b on off = absurd cc

-- ---- the whole table

pub IsLeftByEvents-final : (start : Start) (id : ℕ) (view : List Facts) (words : List ℕ) (slots : List ℕ)
    (guests : List GuestView) (copiers : List CopyView) (versions dirty : List ℕ)
    → view ≡ map (λ guest. of_guest guest.facts) guests ++ map (λ copier. of_copier copier.facts) copiers
    → Final (Seen (λ (s : State ℕ (List Facts)). Shows start s) id view) words slots
    → length versions ≡ length start.places → ((page : ℕ) → page < length start.places
    → get_or versions page 0 ≡ get_or words (place_word start page) 0)
    → length dirty ≡ length start.dirty → ((word : ℕ) → word < length start.dirty
    → get_or dirty word 0 ≡ get_or words word 0)
    → IsLeftByEvents start guests copiers (closed_view versions dirty)
IsLeftByEvents-final start id view words slots guests copiers versions dirty is final versions_len versions_are
    dirty_len dirty_are =
    let shows : Shows start final.0 = final.1.0 in
    let core : DirtyCore = core_after start shows.events in
    let at : get_elem? final.0.views id ≡ some (map (λ guest. of_guest guest.facts) guests
    ++ map (λ copier. of_copier copier.facts) copiers) = final.1.1 ∙ ap some is in
    record {
      events = shows.events;
      legal = shows.legal;
      left = IsLeft-words start words core versions dirty shows.is_start
          (subst (λ ws. ShowWords start ws core) final.2 shows.words)
          (sizes-core_after start shows.events) (IsReal-run start shows.events shows.is_start shows.legal) versions_len
          versions_are dirty_len dirty_are;
      guests_tell = λ number guest there.
          (shows.views id number _ (of_guest guest.facts) at
          (entry_there (λ g. of_guest g.facts) guests (map (λ copier. of_copier copier.facts) copiers) number guest
          there)).1;
      copiers_tell = λ number copier there.
          (shows.views id (length (map (λ guest. of_guest guest.facts) guests) + number) _ (of_copier copier.facts) at
          (copier_there (λ k. of_copier k.facts) copiers (map (λ guest. of_guest guest.facts) guests) number copier
          there)).1;
    }

-- a place that is read back fits
pub small_places : (start : Start) (id : ℕ) (view : List Facts) (words : List ℕ) (slots : List ℕ)
    → Final (Seen (λ (s : State ℕ (List Facts)). Shows start s) id view) words slots
    → (page : ℕ) → page < length start.places → get_or words (place_word start page) 0 < 2 ^ 32
small_places start id view words slots final page low =
    let shows : Shows start final.0 = final.1.0 in
    let small = shows.words.small page low in
    let is : get_or words (place_word start page) 0 ≡ (core_after start shows.events).place page =
    ap (λ ws. get_or ws (place_word start page) 0) (sym final.2) ∙ shows.words.place page low in
    omega (arith, small, is)

pub EachPageLeft-events : (table : TableView) (guests : List GuestView) (copiers : List CopyView) (closed : ClosedView)
    → AllGuests table guests → AllCopiers table copiers → IsLeftByEvents table.start guests copiers closed
    → EachPageLeft table.start guests copiers closed
EachPageLeft-events table guests copiers closed all_guests all_copiers left page guest copier low guest_there
    copier_there =
    let start : Start = table.start in
    let core : DirtyCore = core_after start left.events in
    let sizes : core.sizes ≡ sizes_of start = sizes-core_after start left.events in
    let g = all_guests.each (guest_of (sizes_of start) page) guest guest_there in
    let c = all_copiers.each (copier_of (sizes_of start) page) copier copier_there in
    PageLeft-core start core guest.facts copier.facts closed page low left.left
    (left.guests_tell _ guest guest_there) (left.copiers_tell _ copier copier_there)
    (ap (λ z. guest_of z page) sizes ∙ sym g.number_is) (ap (λ z. copier_of z page) sizes ∙ sym c.number_is)
    g.pending c.held (ap (λ s. s page) (at_opening-core_after start left.events))
    (CaughtUp-run start left.events left.legal page) (OnlyDue-run start left.events left.legal page)
    (KnowsMark-run start left.events left.legal page) (KnowsPlace-run start left.events left.legal page)
    (IsOverReads-run start left.events left.legal page)

-- ---- what the call finds of the seats

pub guests_of_table : (table : TableView) (guests : List GuestView) → AllGuests table guests
    → All (λ guest. guest.id ≡ table.id) guests
guests_of_table table guests all k d low = ap (λ t. t.id) (all.each k (get_or guests k d)
    (slice_get-get_or guests k d low)).table_is

pub copiers_of_table : (table : TableView) (copiers : List CopyView) → AllCopiers table copiers
    → All (λ copier. copier.id ≡ table.id) copiers
copiers_of_table table copiers all k d low = ap (λ t. t.id) (all.each k (get_or copiers k d)
    (slice_get-get_or copiers k d low)).table_is

-- ---- what is left can be opened with again

pub IsStart-left : (start : Start) (guests : List GuestView) (copiers : List CopyView) (closed : ClosedView)
    → IsStart start
    → IsLeftByEvents start guests copiers closed → IsStart (start_with closed.versions closed.dirty start.guests
    start.copiers)
IsStart-left start guests copiers closed is left =
    let core : DirtyCore = core_after start left.events in
    let sizes : core.sizes ≡ sizes_of start = sizes-core_after start left.events in
    let versions = left.left.versions in
    let words = left.left.words in
    let some = is.some in
    let few = is.few in
    let rule = is.words in
    record {
      some = omega (arith, some, versions);
      few = omega (arith, few, versions);
      words = omega (arith, rule, versions, words);
      real = λ page marked.
          let low = (IsReal-run start left.events is left.legal page).marked (sym (left.left.marked page) ∙ marked) in
          let pages : core.sizes.pages ≡ length start.places = ap (λ z. z.pages) sizes in
          omega (arith, low, pages, versions);
      guests_low = is.guests_low;
      guests_high = is.guests_high;
      copiers_low = is.copiers_low;
      copiers_high = is.copiers_high;
    }
