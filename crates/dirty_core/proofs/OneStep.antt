-- An event has one answer, leads to one core, and is refused for one thing; and a run stops at one event.
use Rattle.std.proofs.Common.{◌≡◌, ℕ, zero, suc, ◌+◌, ◌*◌, ◌/◌, ◌%◌, ◌^◌, ◌<◌, eqb, List, [], ◌∷◌}
use Rattle.std.proofs.Common.{length, get_or, take, Some, None, refl, sym, ap, subst, ◌∙◌, inl, inr, arith}
use Rattle.std.specs.Prelude.{slice_get}
use Rattle.std.specs.List.{All, fold}
use Rattle.std.specs.Int.{bit_at}
use Rattle.std.proofs.lemmas.Bool.{eq-eqb, cases_lt}
use Rattle.std.proofs.lemmas.List.{ext_get_or, take_all}
use Rattle.std.proofs.lemmas.Nat.{div-mul-add, mod-mul-add}
use Rattle.std.proofs.lemmas.Nat.Bits.{bit_at-lt, same_from_bits_below}
use Rattle.std.proofs.lemmas.Option.{same_Some, slice_get_within}
use Rattle.page_bitmap.specs.Pages.{in_words, bit_pages, SamePages}
use Rattle.page_bitmap.specs.Listing.{word_count}
use Rattle.dirty_core.specs.declared.event.Event.{Event}
use Rattle.dirty_core.specs.declared.event.Event.TheVariants.{Store, Mark, Harvest, Peek, Restore, Read}
use Rattle.dirty_core.specs.declared.answer.Answer.{Answer}
use Rattle.dirty_core.specs.declared.answer.Answer.TheVariants.{Done, Pages, Place}
use Rattle.dirty_core.specs.declared.refusal.CoreRefusal.{CoreRefusal}
use Rattle.dirty_core.specs.declared.refusal.CoreRefusal.TheVariants.{NotOwner, Pending, NothingPending, NotHeld}
use Rattle.dirty_core.specs.declared.refusal.CoreRefusal.TheVariants.{OldPlace, Memory}
use Rattle.dirty_core.specs.Start.{Start, Sizes, copier_of}
use Rattle.dirty_core.specs.Machine.{DirtyCore, Needs, rank, IsFirstRefusal, AreMarked, Answers, after}
use Rattle.dirty_core.specs.Kept.{Kept, HasWords, kept_sizes, kept_with, held_by, History}
use Rattle.dirty_core.specs.Kept.{core_with, Goes, Refuses}
use Rattle.dirty_core.specs.Runs.{opened, core_after, IsLegalFrom, IsLegal, Stops}
use Rattle.dirty_core.proofs.Outcomes.{no_history}

-- ---- two words, or lists of words, that name the same pages

same_bit : (x y : ℕ) → x < 2 → y < 2 → eqb x 1 ≡ eqb y 1 → x ≡ y
same_bit zero zero a b same = refl
same_bit (suc zero) (suc zero) a b same = refl
same_bit zero (suc zero) a b same = absurd (cc same)
same_bit (suc zero) zero a b same = absurd (cc same)
same_bit x (suc (suc y)) a b same = absurd (omega arith)
same_bit (suc (suc x)) y a b same = absurd (omega arith)

one_marked : (core : DirtyCore) (word a b : ℕ) → AreMarked core word a → AreMarked core word b → a ≡ b
one_marked core word a b one two = same_from_bits_below 64 a b one.fits two.fits (λ k low.
    let page : ℕ = word * 64 + k in
    let e : page / 64 ≡ word = div-mul-add word 64 k low in
    let f : page % 64 ≡ k = mod-mul-add word 64 k low in
    let same : bit_pages word a page ≡ bit_pages word b page = one.pages page ∙ sym (two.pages page) in
    let bits : eqb (bit_at a k) 1 ≡ eqb (bit_at b k) 1 = rw (e, f, eq-eqb word word refl) at same in
    same_bit (bit_at a k) (bit_at b k) (bit_at-lt a k) (bit_at-lt b k) bits)

same_words : (some others : List ℕ) → length some ≡ length others → All (λ word. word < 2 ^ 64) some
    → All (λ word. word < 2 ^ 64) others → SamePages (in_words some) (in_words others) → some ≡ others
same_words some others len fits fit same = ext_get_or 0 some others len (λ i inside.
    same_from_bits_below 64 (get_or some i 0) (get_or others i 0) (fits i 0 inside) (fit i 0 (omega (arith, len)))
    (λ k low.
    let page : ℕ = i * 64 + k in
    let e : page / 64 ≡ i = div-mul-add i 64 k low in
    let f : page % 64 ≡ k = mod-mul-add i 64 k low in
    let bits : eqb (bit_at (get_or some i 0) k) 1 ≡ eqb (bit_at (get_or others i 0) k) 1 = rw (e, f) at (same page) in
    same_bit _ _ (bit_at-lt (get_or some i 0) k) (bit_at-lt (get_or others i 0) k) bits))

-- ---- what is kept of one core

one_kept : (new other : Kept) (now then : History) → HasWords new → HasWords other
    → core_with new now ≡ core_with other then → new ≡ other
one_kept new other now then has had same =
    let sizes : kept_sizes new ≡ kept_sizes other = ap (λ core. core.sizes) same in
    let pages : length new.places ≡ length other.places = ap (λ (s : Sizes). s.pages) sizes in
    let guests : length new.pending ≡ length other.pending = ap (λ (s : Sizes). s.guests) sizes in
    let copiers : new.copiers ≡ other.copiers = ap (λ (s : Sizes). s.copiers) sizes in
    let places : new.places ≡ other.places = ext_get_or 0 new.places other.places pages
    (λ page inside. ap (λ core. core.place page) same) in
    let pending : new.pending ≡ other.pending = ext_get_or None new.pending other.pending guests
    (λ guest inside. ap (λ core. core.pending guest) same) in
    let dirty : new.dirty ≡ other.dirty =
    same_words new.dirty other.dirty (has.kept.dirty ∙ ap word_count pages ∙ sym had.kept.dirty) has.dirty had.dirty
    (λ page. ap (λ core. core.marked page) same) in
    let held : new.held ≡ other.held =
    same_words new.held other.held (has.kept.held ∙ ap word_count pages ∙ sym had.kept.held) has.held had.held
    (λ page.
    let copier : ℕ = copier_of (kept_sizes new) page in
    let own : copier_of (kept_sizes other) page ≡ copier = ap (λ s. copier_of s page) (sym sizes) in
    let both : held_by new copier page ≡ held_by other copier page = ap (λ core. core.held copier page) same in
    rw (own, eq-eqb copier copier refl) at both) in
    λ i. kept_with (places i) (dirty i) (held i) (pending i) (copiers i)

pub one_core_lem : (old new other : Kept) (event : Event) (a b : Answer) → HasWords new → HasWords other
    → Goes old event a new → Goes old event b other → new ≡ other
one_core_lem old new other event a b has had goes went =
    let one = goes no_history in
    let two = went no_history in
    one_kept new other one.0 two.0 has had (one.1.leads ∙ sym two.1.leads)

-- ---- one answer

one_answer : (core : DirtyCore) (event : Event) (a b : Answer) → Answers core event a → Answers core event b → a ≡ b
one_answer core (Store guest page place) Done Done is_a is_b = refl
one_answer core (Store guest page place) Done (Pages y) is_a is_b = absurd is_b
one_answer core (Store guest page place) Done (Place y) is_a is_b = absurd is_b
one_answer core (Store guest page place) (Pages x) b is_a is_b = absurd is_a
one_answer core (Store guest page place) (Place x) b is_a is_b = absurd is_a
one_answer core (Mark guest) Done Done is_a is_b = refl
one_answer core (Mark guest) Done (Pages y) is_a is_b = absurd is_b
one_answer core (Mark guest) Done (Place y) is_a is_b = absurd is_b
one_answer core (Mark guest) (Pages x) b is_a is_b = absurd is_a
one_answer core (Mark guest) (Place x) b is_a is_b = absurd is_a
one_answer core (Harvest copier word) (Pages x) (Pages y) is_a is_b =
    ap (λ bits. Pages bits) (one_marked core word x y is_a is_b)
one_answer core (Harvest copier word) (Pages x) Done is_a is_b = absurd is_b
one_answer core (Harvest copier word) (Pages x) (Place y) is_a is_b = absurd is_b
one_answer core (Harvest copier word) Done b is_a is_b = absurd is_a
one_answer core (Harvest copier word) (Place x) b is_a is_b = absurd is_a
one_answer core (Peek copier word) (Pages x) (Pages y) is_a is_b =
    ap (λ bits. Pages bits) (one_marked core word x y is_a is_b)
one_answer core (Peek copier word) (Pages x) Done is_a is_b = absurd is_b
one_answer core (Peek copier word) (Pages x) (Place y) is_a is_b = absurd is_b
one_answer core (Peek copier word) Done b is_a is_b = absurd is_a
one_answer core (Peek copier word) (Place x) b is_a is_b = absurd is_a
one_answer core (Restore copier word bits) Done Done is_a is_b = refl
one_answer core (Restore copier word bits) Done (Pages y) is_a is_b = absurd is_b
one_answer core (Restore copier word bits) Done (Place y) is_a is_b = absurd is_b
one_answer core (Restore copier word bits) (Pages x) b is_a is_b = absurd is_a
one_answer core (Restore copier word bits) (Place x) b is_a is_b = absurd is_a
one_answer core (Read copier page) (Place x) (Place y) is_a is_b = ap (λ place. Place place) (is_a ∙ sym is_b)
one_answer core (Read copier page) (Place x) Done is_a is_b = absurd is_b
one_answer core (Read copier page) (Place x) (Pages y) is_a is_b = absurd is_b
one_answer core (Read copier page) Done b is_a is_b = absurd is_a
one_answer core (Read copier page) (Pages x) b is_a is_b = absurd is_a

pub one_answer_lem : (old new other : Kept) (event : Event) (a b : Answer) → Goes old event a new
    → Goes old event b other → a ≡ b
one_answer_lem old new other event a b goes went =
    one_answer (core_with old no_history) event a b (goes no_history).1.answers (went no_history).1.answers

-- ---- one refusal

-- the refusal of a rank
named : ℕ → CoreRefusal
named (suc zero) = NotOwner
named (suc (suc zero)) = Pending
named (suc (suc (suc zero))) = NothingPending
named (suc (suc (suc (suc zero)))) = NotHeld
named (suc (suc (suc (suc (suc zero))))) = OldPlace
named _ = Memory

named_rank : (refusal : CoreRefusal) → named (rank refusal) ≡ refusal
unfolding named
named_rank NotOwner = refl
named_rank Pending = refl
named_rank NothingPending = refl
named_rank NotHeld = refl
named_rank OldPlace = refl
named_rank Memory = refl

one_first : (core : DirtyCore) (event : Event) (a b : CoreRefusal) → IsFirstRefusal core event a
    → IsFirstRefusal core event b → a ≡ b
one_first core event a b one two = elim (cases_lt (rank a) (rank b)) [
  | inl less ↦ absurd (one.unmet (two.met a less))
  | inr low ↦ elim (cases_lt (rank b) (rank a)) [
    | inl less ↦ absurd (two.unmet (one.met b less))
    | inr high ↦
        let same : rank a ≡ rank b = omega (arith, low, high) in
        sym (named_rank a) ∙ ap named same ∙ named_rank b
  ]
]

pub one_refusal_lem : (kept : Kept) (event : Event) (a b : CoreRefusal) → Refuses kept event a → Refuses kept event b
    → a ≡ b
one_refusal_lem kept event a b one two =
    one_first (core_with kept no_history) event a b (one no_history) (two no_history)

-- ---- one stop

-- what a legal event finds
needs_at : (core : DirtyCore) (events : List Event) (i j : ℕ) (event : Event) → i < j
    → slice_get events i ≡ Some event → IsLegalFrom core (take j events)
    → Needs (fold after core (take i events)) event
needs_at core [] i j event less there legal = absurd (cc there)
needs_at core (first ∷ events) zero zero event less there legal = absurd (omega (arith, less))
needs_at core (first ∷ events) zero (suc j) event less there legal =
    subst (λ (e : Event). Needs core e) (same_Some first event there) legal.0
needs_at core (first ∷ events) (suc i) zero event less there legal = absurd (omega (arith, less))
needs_at core (first ∷ events) (suc i) (suc j) event less there legal =
    needs_at (after core first) events i j event (omega (arith, less)) there legal.1

pub never_stops_lem : (start : Start) (events : List Event) (index : ℕ) (refusal : CoreRefusal)
    → IsLegal start events → Stops start events index refusal → ⊥
never_stops_lem start events index refusal legal stops =
    let inside : index < length events = slice_get_within events index stops.event stops.there in
    let whole : take (length events) events ≡ events = take_all (length events) events (omega arith) in
    stops.refused.unmet (needs_at (opened start) events index (length events) stops.event inside stops.there
    (subst (λ (es : List Event). IsLegalFrom (opened start) es) (sym whole) legal) refusal)

none_before : (start : Start) (events : List Event) (i j : ℕ) (a b : CoreRefusal) → Stops start events i a
    → Stops start events j b → i < j → ⊥
none_before start events i j a b one two less =
    one.refused.unmet (needs_at (opened start) events i j one.event less one.there two.before a)

pub one_index_lem : (start : Start) (events : List Event) (i j : ℕ) (a b : CoreRefusal) → Stops start events i a
    → Stops start events j b → i ≡ j
one_index_lem start events i j a b one two = elim (cases_lt i j) [
  | inl less ↦ absurd (none_before start events i j a b one two less)
  | inr low ↦ elim (cases_lt j i) [
    | inl less ↦ absurd (none_before start events j i b a two one less)
    | inr high ↦ omega (arith, low, high)
  ]
]

pub one_stop_lem : (start : Start) (events : List Event) (i j : ℕ) (a b : CoreRefusal) → Stops start events i a
    → Stops start events j b → a ≡ b
one_stop_lem start events i j a b one two =
    let same = one_index_lem start events i j a b one two in
    let event : one.event ≡ two.event =
    same_Some one.event two.event (sym one.there ∙ ap (slice_get events) same ∙ two.there) in
    one_first (core_after start (take j events)) two.event a b
    (subst (λ (e : Event). IsFirstRefusal (core_after start (take j events)) e a) event
    (subst (λ (n : ℕ). IsFirstRefusal (core_after start (take n events)) one.event a) same one.refused)) two.refused
