-- The rule at opening, and at each cut, join and new seat.
use Rattle.std.proofs.Common.{◌≡◌, ℕ, zero, suc, ◌+◌, ◌-◌, ◌/◌, ◌%◌, ◌^◌, ◌<◌, ◌≤◌, List, [], ◌∷◌, ◌++◌, map, length}
use Rattle.std.proofs.Common.{get_or, eqb, refl, sym, ap, subst, ◌∙◌, arith, ⊎_elim}
use Rattle.std.specs.List.{range_with_len}
use Rattle.std.specs.Int.{bit_at}
use mathlib.Core.Option.{some, none, some-injective, some-ne-none}
use lib.ListN.{get_elem?}
use Rattle.std.proofs.Math.ListN.{get_or-append}
use Rattle.std.proofs.lemmas.List.{length-append, get_or-append-add}
use Rattle.atomic_table.specs.Table.{State, step, opening, Splits, Joins, Enters}
use Rattle.dirty_core.specs.Start.{Start, IsStart}
use Rattle.dirty_core.specs.Runs.{opened}
use Rattle.dirty_words.specs.Facts.{Facts, of_guest, of_copier, first_guest, first_copier, guest_entries}
use Rattle.dirty_words.specs.Facts.{copier_entries, opening_facts}
use Rattle.dirty_words.specs.Plays.{first_of, rest_of, enters}
use Rattle.dirty_words.specs.Shows.{ShowWords, TellsGuest, TellsCopier, Tells, Owners, owner_of, EachView, Shows}
use Rattle.dirty_words.proofs.Seating.{IsSameSeat, nothing, in_either, gives, merged, EachView-cut, EachView-join}
use Rattle.dirty_words.proofs.Seating.{EachView-enter}
use Rattle.page_bitmap.proofs.Bits.{no_words}

-- ---- what is in a view of the opening

in_range : (f : ℕ → Facts) (number count entry : ℕ) (facts : Facts)
    → get_elem? (map f (range_with_len number count)) entry ≡ some facts
    → (n : ℕ) × (number ≤ n) × (facts ≡ f n)
in_range f number zero entry facts e = absurd (nothing entry facts e)
in_range f number (suc count) zero facts e = (number, omega arith, sym (some-injective (f number) facts e))
in_range f number (suc count) (suc entry) facts e = let later =
    in_range f (number + 1) count entry facts e in let above = later.1 in (later.0, omega arith, later.2)

Tells-first_guest : (start : Start) (number : ℕ) → TellsGuest start (opened start) (first_guest start number)
Tells-first_guest start number = record { start_is = refl; stores = refl; pending = refl }

Tells-first_copier : (start : Start) (number : ℕ) → TellsCopier start (opened start) (first_copier start number)
Tells-first_copier start number = record {
  start_is = refl;
  held = λ page. no_words (length start.dirty) page;
  reads = refl;
  returned = λ page own. refl;
  fresh = λ page shown. absurd (let none = no_words (length start.dirty) page in cc);
}

Tells-opening : (start : Start) (entry : ℕ) (facts : Facts) → get_elem? (opening_facts start) entry ≡ some facts
    → Tells start (opened start) facts
Tells-opening start entry facts e = ⊎_elim
    (λ (guest : get_elem? (guest_entries start 0 start.guests) entry ≡ some facts).
    let is = in_range (λ n. of_guest (first_guest start n)) 0 start.guests entry facts guest in
    subst (λ f. Tells start (opened start) f) (sym is.2) (Tells-first_guest start is.0))
    (λ (copier : (k : ℕ) × (get_elem? (copier_entries start 0 start.copiers) k ≡ some facts)).
    let is = in_range (λ n. of_copier (first_copier start n)) 0 start.copiers copier.0 facts copier.1 in
    subst (λ f. Tells start (opened start) f) (sym is.2) (Tells-first_copier start is.0))
    (in_either (guest_entries start 0 start.guests) (copier_entries start 0 start.copiers) entry facts e)

-- ---- the opening

pub ShowWords-opened : (start : Start) (words : List ℕ) → words ≡ start.dirty ++ start.places
    → ((page : ℕ) → get_or start.places page 0 < 2 ^ 32) → ShowWords start words (opened start)
ShowWords-opened start words is small = subst (λ ws. ShowWords start ws (opened start)) (sym is) (record {
  sized = length-append start.dirty start.places;
  marked = λ page low. ap (λ n. eqb (bit_at n (page % 64)) 1)
      (get_or-append start.dirty start.places 0 (page / 64) low);
  place = λ page low. get_or-append-add start.dirty start.places page 0;
  small = λ page low. small page;
})

abbrev no_owner : Owners
no_owner = record { guest = λ n. 0; copier = λ n. 0 }

first_owner : (facts : Facts) → owner_of no_owner facts ≡ 0
first_owner (of_guest facts) = refl
first_owner (of_copier facts) = refl

pub Shows-opened : (start : Start) (words : List ℕ) → IsStart start → words ≡ start.dirty ++ start.places
    → ((page : ℕ) → get_or start.places page 0 < 2 ^ 32) → Shows {S = ℕ} start (opening words [] (opening_facts start))
Shows-opened start words is_start is small = record {
  is_start = is_start;
  events = [];
  legal = tt;
  words = ShowWords-opened start words is small;
  owners = no_owner;
  views = first_view;
}
  where
    first_view : EachView (opening_facts start ∷ []) no_owner (Tells start (opened start))
    first_view zero entry view facts there inside = (
      first_owner facts,
      Tells-opening start entry facts (subst (λ v. get_elem? v entry ≡ some facts)
          (sym (some-injective (opening_facts start) view there)) inside),
    )
    first_view (suc seat) entry view facts there inside = absurd (some-ne-none view (sym there))

-- ---- a cut

cuts : (start : Start) (id : ℕ) (first : Facts) (rest : List Facts)
    → ((entry : ℕ) (other : Facts) → get_elem? rest entry ≡ some other → IsSameSeat first other → ⊥)
    → Splits (λ (s : State ℕ (List Facts)). Shows start s) id (first ∷ rest) rest (first ∷ [])
cuts start id first rest apart s shows at = record {
  is_start = shows.is_start;
  events = shows.events;
  legal = shows.legal;
  words = shows.words;
  owners = gives shows.owners first (length s.views);
  views = EachView-cut s.views shows.owners _ id first rest shows.views at apart;
}

-- no guest of a later number, and no copier, is this guest
apart_guest : (start : Start) (number count : ℕ) (entry : ℕ) (other : Facts)
    → get_elem? (guest_entries start (number + 1) count ++ copier_entries start 0 start.copiers) entry ≡ some other
    → IsSameSeat (of_guest (first_guest start number)) other → ⊥
apart_guest start number count entry other e same = ⊎_elim
    (λ (guest : get_elem? (guest_entries start (number + 1) count) entry ≡ some other).
    let is = in_range (λ n. of_guest (first_guest start n)) (number + 1) count entry other guest in
    let e : number ≡ is.0 = subst (λ f. IsSameSeat (of_guest (first_guest start number)) f) is.2 same in
    let above : number + 1 ≤ is.0 = is.1 in
    omega (arith, e, above))
    (λ (copier : (k : ℕ) × (get_elem? (copier_entries start 0 start.copiers) k ≡ some other)).
    let is = in_range (λ n. of_copier (first_copier start n)) 0 start.copiers copier.0 other copier.1 in
    subst (λ f. IsSameSeat (of_guest (first_guest start number)) f) is.2 same)
    (in_either (guest_entries start (number + 1) count) (copier_entries start 0 start.copiers) entry other e)

apart_copier : (start : Start) (number count : ℕ) (entry : ℕ) (other : Facts)
    → get_elem? (copier_entries start (number + 1) count) entry ≡ some other
    → IsSameSeat (of_copier (first_copier start number)) other → ⊥
apart_copier start number count entry other e same =
    let is = in_range (λ n. of_copier (first_copier start n)) (number + 1) count entry other e in
    let e : number ≡ is.0 = subst (λ f. IsSameSeat (of_copier (first_copier start number)) f) is.2 same in
    let above : number + 1 ≤ is.0 = is.1 in
    omega (arith, e, above)

-- the entries of a number below the last: its own, and the others
pub guest_entries-more : (start : Start) (number count : ℕ) → number < count
    → guest_entries start number (count - number) ≡ of_guest (first_guest start number)
    ∷ guest_entries start (number + 1) (count - (number + 1))
guest_entries-more start number count low =
    let e : count - number ≡ suc (count - (number + 1)) = omega arith in ap (guest_entries start number) e

pub copier_entries-more : (start : Start) (number count : ℕ) → number < count
    → copier_entries start number (count - number) ≡ of_copier (first_copier start number)
    ∷ copier_entries start (number + 1) (count - (number + 1))
copier_entries-more start number count low =
    let e : count - number ≡ suc (count - (number + 1)) = omega arith in ap (copier_entries start number) e

pub cuts_guest : (start : Start) (id number : ℕ) (view : List Facts) → number < start.guests
    → view ≡ guest_entries start number (start.guests - number) ++ copier_entries start 0 start.copiers
    → Splits (λ (s : State ℕ (List Facts)). Shows start s) id view (rest_of view) (first_of view)
cuts_guest start id number view low is =
    let others : List Facts = guest_entries start (number + 1) (start.guests - (number + 1))
    ++ copier_entries start 0 start.copiers in
    let e : of_guest (first_guest start number) ∷ others ≡ view =
    sym (is ∙ ap (λ l. l ++ copier_entries start 0 start.copiers) (guest_entries-more start number start.guests low)) in
    subst (λ v. Splits (λ (s : State ℕ (List Facts)). Shows start s) id v (rest_of v) (first_of v)) e
    (cuts start id (of_guest (first_guest start number)) others
    (apart_guest start number (start.guests - (number + 1))))

pub cuts_copier : (start : Start) (id number : ℕ) (view : List Facts) → number < start.copiers
    → view ≡ copier_entries start number (start.copiers - number)
    → Splits (λ (s : State ℕ (List Facts)). Shows start s) id view (rest_of view) (first_of view)
cuts_copier start id number view low is =
    let others : List Facts = copier_entries start (number + 1) (start.copiers - (number + 1)) in
    let e : of_copier (first_copier start number) ∷ others ≡ view =
    sym (is ∙ copier_entries-more start number start.copiers low) in
    subst (λ v. Splits (λ (s : State ℕ (List Facts)). Shows start s) id v (rest_of v) (first_of v)) e
    (cuts start id (of_copier (first_copier start number)) others
    (apart_copier start number (start.copiers - (number + 1))))

-- ---- a join, and a new seat

pub joins : (start : Start) (id : ℕ) (view : List Facts) (other : ℕ) (theirs : List Facts)
    → Joins (λ (s : State ℕ (List Facts)). Shows start s) id view other theirs (view ++ theirs) []
joins start id view other theirs s shows at apart at_other = record {
  is_start = shows.is_start;
  events = shows.events;
  legal = shows.legal;
  words = shows.words;
  owners = merged shows.owners other id;
  views = EachView-join s.views shows.owners _ id view other theirs shows.views at apart at_other;
}

pub enters_table : (start : Start) (slots word : ℕ) (first : List Facts)
    → Enters (λ (s : State ℕ (List Facts)). Shows start s) slots word
    (λ n w. enters {S = ℕ} (step slots word 0 0 none) (first, []) n (w, []))
enters_table start slots word first s shows homes small = (
  [],
  record {
    is_start = shows.is_start;
    events = shows.events;
    legal = shows.legal;
    words = shows.words;
    owners = shows.owners;
    views = EachView-enter s.views shows.owners _ shows.views;
  },
  refl,
)

-- ---- what a cut takes and leaves

pub first_guest_cut : (start : Start) (number : ℕ) (view : List Facts) → number < start.guests
    → view ≡ guest_entries start number (start.guests - number) ++ copier_entries start 0 start.copiers
    → (first_of view ≡ of_guest (first_guest start number) ∷ [])
    × (rest_of view ≡ guest_entries start (number + 1) (start.guests - (number + 1))
    ++ copier_entries start 0 start.copiers)
first_guest_cut start number view low is =
    let e = is ∙ ap (λ l. l ++ copier_entries start 0 start.copiers)
    (guest_entries-more start number start.guests low) in
    (ap first_of e, ap rest_of e)

pub first_copier_cut : (start : Start) (number : ℕ) (view : List Facts) → number < start.copiers
    → view ≡ copier_entries start number (start.copiers - number)
    → (first_of view ≡ of_copier (first_copier start number) ∷ [])
    × (rest_of view ≡ copier_entries start (number + 1) (start.copiers - (number + 1)))
first_copier_cut start number view low is =
    let e = is ∙ copier_entries-more start number start.copiers low in
    (ap first_of e, ap rest_of e)
