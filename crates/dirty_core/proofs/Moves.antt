-- What the code writes for each event is the event's relation, whatever the history was.
use Rattle.std.proofs.Common.{◌≡◌, ℕ, ◌/◌, ◌%◌, ◌^◌, ◌<◌, Bool, true, false, cond, not, ◌&&◌, ◌||◌, eqb, List, length}
use Rattle.std.proofs.Common.{get_or, set, replicate, Option, Some, None, refl, sym, ap, ◌∙◌, inl, inr}
use Rattle.std.specs.Prelude.{IsTrue, IsSome, is_some}
use Rattle.std.proofs.lemmas.Bool.{eqb-true, eq-eqb, ne_eqb, cases_eq, and_parts, and_from}
use Rattle.std.proofs.lemmas.List.{get_or-set_same, get_or-set_other, get_or_default}
use Rattle.std.proofs.lemmas.List.{length-set, length-replicate}
use Rattle.std.proofs.Math.Bool.{or-false, and-true, and-false, or-true}
use Rattle.dirty_core.specs.declared.event.Event.{Event}
use Rattle.dirty_core.specs.declared.event.Event.TheVariants.{Store, Mark, Harvest, Peek, Restore, Read}
use Rattle.dirty_core.specs.declared.answer.Answer.{Answer}
use Rattle.dirty_core.specs.declared.answer.Answer.TheVariants.{Done, Pages, Place}
use Rattle.dirty_core.specs.declared.refusal.CoreRefusal.TheVariants.{NotOwner, Pending, NothingPending, NotHeld}
use Rattle.dirty_core.specs.declared.refusal.CoreRefusal.TheVariants.{OldPlace}
use Rattle.page_bitmap.specs.Pages.{PageSet, in_words, one_page, word_pages, bit_pages, union, common, minus, IsWithin}
use Rattle.page_bitmap.specs.Pages.{SamePages}
use Rattle.page_bitmap.proofs.Bits.{no_words}
use Rattle.dirty_core.specs.Start.{Start, Sizes, GuestOwns, CopierOwns, CopierOwnsPage}
use Rattle.dirty_core.specs.Machine.{DirtyCore, put, with_pending, Needs, Answers, after}
use Rattle.dirty_core.specs.Runs.{opened}
use Rattle.dirty_core.specs.Kept.{Kept, kept_with, kept_sizes, place_of, is_marked, pending_of, held_by, History}
use Rattle.dirty_core.specs.Kept.{history_of, core_with, Keeps, Goes}
use Rattle.migration_model.proofs.Lists.{get_or-replicate_default}

-- the kept value shows what this core has now
pub record ShowsNow (kept : Kept) (core : DirtyCore) : Type 0 where
  pub sizes : kept_sizes kept ≡ core.sizes
  pub place : (page : ℕ) → place_of kept page ≡ core.place page
  pub marked : SamePages (is_marked kept) core.marked
  pub pending : (guest : ℕ) → pending_of kept guest ≡ core.pending guest
  pub held : (copier : ℕ) → SamePages (held_by kept copier) (core.held copier)

pub Keeps-from_now : (kept : Kept) (core : DirtyCore) → ShowsNow kept core → Keeps kept core
Keeps-from_now kept core now = λ i. record {
  sizes = now.sizes i;
  place = λ page. now.place page i;
  marked = λ page. now.marked page i;
  pending = λ guest. now.pending guest i;
  held = λ copier page. now.held copier page i;
  reads = core.reads;
  stores = core.stores;
  at_opening = core.at_opening;
  returned = core.returned;
}

-- what a step shows of a core with some history
record Moves (old : Kept) (event : Event) (answer : Answer) (new : Kept) (history : History) : Type 0 where
  pub needs : Needs (core_with old history) event
  pub answers : Answers (core_with old history) event answer
  pub now : ShowsNow new (after (core_with old history) event)

Goes-from_moves : (old : Kept) (event : Event) (answer : Answer) (new : Kept)
    → ((history : History) → Moves old event answer new history) → Goes old event answer new
Goes-from_moves old event answer new moves history =
    let here = moves history in (
      history_of (after (core_with old history) event),
      record {
        needs = here.needs;
        answers = here.answers;
        leads = Keeps-from_now new (after (core_with old history) event) here.now;
      },
    )

-- ---- a function with another value at one argument

put-set : {V : Type 0} (xs : List V) (i : ℕ) (v d : V) → i < length xs → (n : ℕ)
    → get_or (set xs i v) n d ≡ put (λ m. get_or xs m d) i v n
put-set xs i v d within n = elim (cases_eq n i) [
  | inl e ↦ rw (e, eq-eqb i i refl, get_or-set_same) refl
  | inr ne ↦ rw (ne_eqb n i ne, get_or-set_other) refl
]

-- ---- the sets of pages that copiers hold, when pages of one of them come or go

and_assoc : (a b c : Bool) → (a && (b && c)) ≡ ((a && b) && c)
and_assoc true b c = refl
and_assoc false b c = refl

held_more : (o c copier : ℕ) (h s : Bool) → (s ≡ true → o ≡ copier)
    → (eqb o c && (h || s)) ≡ cond (eqb c copier) ((eqb o copier && h) || s) (eqb o c && h)
held_more o c copier h false own = elim (cases_eq c copier) [
  | inl e ↦ rw (e, eq-eqb copier copier refl, or-false h) (sym (or-false _))
  | inr ne ↦ rw (ne_eqb c copier ne, or-false h) refl
]
held_more o c copier h true own = elim (cases_eq c copier) [
  | inl e ↦ rw (e, own refl, eq-eqb copier copier refl, or-true h) refl
  | inr ne ↦
      let apart : o ≡ c → ⊥ = λ same. ne (sym same ∙ own refl) in
      rw (ne_eqb c copier ne, ne_eqb o c apart) refl
]

held_less : (o c copier : ℕ) (h s : Bool) → (s ≡ true → o ≡ copier)
    → (eqb o c && (h && not s)) ≡ cond (eqb c copier) ((eqb o copier && h) && not s) (eqb o c && h)
held_less o c copier h false own = elim (cases_eq c copier) [
  | inl e ↦ rw (e, eq-eqb copier copier refl) (and_assoc (eqb o copier) h (not false))
  | inr ne ↦ rw (ne_eqb c copier ne, and-true h) refl
]
held_less o c copier h true own = elim (cases_eq c copier) [
  | inl e ↦ rw (e, eq-eqb copier copier refl) (and_assoc (eqb o copier) h (not true))
  | inr ne ↦
      let apart : o ≡ c → ⊥ = λ same. ne (sym same ∙ own refl) in
      rw (ne_eqb c copier ne, ne_eqb o c apart) refl
]

-- one page of one of two sets
one_set : (b : Bool) (some others : PageSet) (page : ℕ) → cond b (some page) (others page) ≡ (cond b some others) page
one_set true some others page = refl
one_set false some others page = refl

-- a page of a copier's word is that copier's
own_word : (sizes : Sizes) (copier word page : ℕ) → CopierOwns sizes copier word → eqb (page / 64) word ≡ true
    → page / 64 % sizes.copiers ≡ copier
own_word sizes copier word page owns same = rw (eqb-true _ _ same) owns.owner

-- ---- what was read of the list of pending pages

pub nothing_read : (xs : List (Option ℕ)) (i : ℕ) (o : Option ℕ) (b : Bool) → i < length xs → o ≡ get_or xs i o
    → b ≡ is_some o → b ≡ false
    → get_or xs i None ≡ None
nothing_read xs i None b within read is none = get_or_default xs i None None within ∙ sym read
nothing_read xs i (Some page) b within read is none = absurd cc

pub something_read : (xs : List (Option ℕ)) (i page : ℕ) (o : Option ℕ) → i < length xs → o ≡ get_or xs i o
    → o ≡ Some page → get_or xs i None ≡ Some page
something_read xs i page o within read is = get_or_default xs i None o within ∙ sym read ∙ is

-- pages that are pending exist, even if one is pending no more
pub pending_real : (xs : List (Option ℕ)) (i pages : ℕ) → i < length xs
    → ((guest page : ℕ) → get_or xs guest None ≡ Some page → page < pages)
    → (guest page : ℕ) → get_or (set xs i None) guest None ≡ Some page → page < pages
pending_real xs i pages within real guest page is = elim (cases_eq guest i) [
  | inl e ↦ absurd (let none : get_or (set xs i None) guest None ≡ None = rw (e, get_or-set_same) refl in cc)
  | inr ne ↦ real guest page (let same : get_or (set xs i None) guest None ≡ get_or xs guest None =
      rw get_or-set_other refl in sym same ∙ is)
]

-- ---- the opening

pub Keeps-opened : (start : Start) (n copiers : ℕ) (places dirty held : List ℕ) (pending : List (Option ℕ))
    → places ≡ start.places → dirty ≡ start.dirty → held ≡ replicate n 0 → pending ≡ replicate start.guests None
    → copiers ≡ start.copiers
    → Keeps (kept_with places dirty held pending copiers) (opened start)
Keeps-opened start n copiers places dirty held pending p d h q c = Keeps-from_now _ _ (record {
  sizes = λ i. record {
    pages = length (p i);
    guests = (ap length q ∙ length-replicate start.guests None) i;
    copiers =
        c i;
  };
  place = λ page. ap (λ xs. get_or xs page 0) p;
  marked = λ page. ap (λ xs. in_words xs page) d;
  pending = λ guest. ap (λ xs. get_or xs guest None) q ∙ get_or-replicate_default start.guests guest None;
  held = λ copier page.
      ap (λ xs. eqb (page / 64 % copiers) copier && in_words xs page) h
      ∙ ap (λ b. eqb (page / 64 % copiers) copier && b) (no_words n page) ∙ and-false _;
})

-- ---- the six events

pub Needs-store : (core : DirtyCore) (guest page place : ℕ) → GuestOwns core.sizes guest page
    → core.pending guest ≡ None → core.place page < place
    → Needs core (Store guest page place)
Needs-store core guest page place owns none over NotOwner = owns
Needs-store core guest page place owns none over Pending = none
Needs-store core guest page place owns none over OldPlace = over
Needs-store core guest page place owns none over _ = tt

pub stored : (k : Kept) (guest page place : ℕ) → GuestOwns (kept_sizes k) guest page → pending_of k guest ≡ None
    → place_of k page < place
    → Goes k (Store guest page place) Done (kept_with (set k.places page place) k.dirty k.held
    (set k.pending guest (Some page)) k.copiers)
stored k guest page place owns none over = Goes-from_moves _ _ _ _ (λ history. record {
  needs = Needs-store (core_with k history) guest page place owns none over;
  answers = tt;
  now = record {
    sizes = λ i. record {
      pages = length-set k.places page place i;
      guests = length-set k.pending guest (Some page) i;
      copiers = k.copiers;
    };
    place = put-set k.places page place 0 owns.page_real;
    marked = λ p. refl;
    pending = put-set k.pending guest (Some page) None owns.guest_real;
    held = λ c p. refl;
  };
})

pub Needs-mark : (core : DirtyCore) (guest : ℕ) → guest < core.sizes.guests → IsSome (core.pending guest)
    → Needs core (Mark guest)
Needs-mark core guest real some NotOwner = real
Needs-mark core guest real some NothingPending = some
Needs-mark core guest real some _ = tt

pub marked : (k : Kept) (guest page : ℕ) (dirty : List ℕ) → guest < length k.pending → pending_of k guest ≡ Some page
    → SamePages (in_words dirty) (union (in_words k.dirty) (one_page page))
    → Goes k (Mark guest) Done (kept_with k.places dirty k.held (set k.pending guest None) k.copiers)
marked k guest page dirty real some pages = Goes-from_moves _ _ _ _ (λ history. record {
  needs = Needs-mark (core_with k history) guest real (rw some refl);
  answers = tt;
  now = record {
    sizes = λ i. record { pages = length k.places; guests = length-set k.pending guest None i; copiers = k.copiers };
    place = λ p. refl;
    marked = λ p. pages p ∙ ap (λ o. with_pending (in_words k.dirty) o p) (sym some);
    pending = put-set k.pending guest None None real;
    held = λ c p. refl;
  };
})

pub Needs-harvest : (core : DirtyCore) (copier word : ℕ) → CopierOwns core.sizes copier word
    → Needs core (Harvest copier word)
Needs-harvest core copier word owns NotOwner = owns
Needs-harvest core copier word owns _ = tt

pub harvested : (k : Kept) (copier word bits : ℕ) (dirty held : List ℕ) → CopierOwns (kept_sizes k) copier word
    → bits < 2 ^ 64
    → SamePages (bit_pages word bits) (common (word_pages word) (in_words k.dirty))
    → SamePages (in_words dirty) (minus (in_words k.dirty) (word_pages word))
    → SamePages (in_words held) (union (in_words k.held) (bit_pages word bits))
    → Goes k (Harvest copier word) (Pages bits) (kept_with k.places dirty held k.pending k.copiers)
harvested k copier word bits dirty held owns fits pages cleared more = Goes-from_moves _ _ _ _ (λ history. record {
  needs = Needs-harvest (core_with k history) copier word owns;
  answers = record { fits = fits; pages = pages };
  now = record {
    sizes = refl;
    place = λ p. refl;
    marked = cleared;
    pending = λ g. refl;
    held = λ c p.
        ap (λ b. eqb (p / 64 % k.copiers) c && b) (more p ∙ ap (λ b. in_words k.held p || b) (pages p))
        ∙ held_more (p / 64 % k.copiers) c copier (in_words k.held p) (common (word_pages word) (in_words k.dirty) p)
        (λ both. own_word (kept_sizes k) copier word p owns (and_parts _ _ both).0)
        ∙ one_set (eqb c copier) (union (held_by k copier) (common (word_pages word) (in_words k.dirty))) (held_by k c)
        p;
  };
})

pub Needs-peek : (core : DirtyCore) (copier word : ℕ) → CopierOwns core.sizes copier word
    → Needs core (Peek copier word)
Needs-peek core copier word owns NotOwner = owns
Needs-peek core copier word owns _ = tt

pub peeked : (k : Kept) (copier word bits : ℕ) → CopierOwns (kept_sizes k) copier word → bits < 2 ^ 64
    → SamePages (bit_pages word bits) (common (word_pages word) (in_words k.dirty))
    → Goes k (Peek copier word) (Pages bits) k
peeked k copier word bits owns fits pages = Goes-from_moves _ _ _ _ (λ history. record {
  needs = Needs-peek (core_with k history) copier word owns;
  answers = record { fits = fits; pages = pages };
  now = record { sizes = refl; place = λ p. refl; marked = λ p. refl; pending = λ g. refl; held = λ c p. refl };
})

pub Needs-restore : (core : DirtyCore) (copier word bits : ℕ) → CopierOwns core.sizes copier word
    → IsWithin (bit_pages word bits) (core.held copier)
    → Needs core (Restore copier word bits)
Needs-restore core copier word bits owns within NotOwner = owns
Needs-restore core copier word bits owns within NotHeld = within
Needs-restore core copier word bits owns within _ = tt

pub restored : (k : Kept) (copier word bits : ℕ) (dirty held : List ℕ) → CopierOwns (kept_sizes k) copier word
    → IsWithin (bit_pages word bits) (in_words k.held)
    → SamePages (in_words held) (minus (in_words k.held) (bit_pages word bits))
    → SamePages (in_words dirty) (union (in_words k.dirty) (bit_pages word bits))
    → Goes k (Restore copier word bits) Done (kept_with k.places dirty held k.pending k.copiers)
restored k copier word bits dirty held owns within less more =
    let own : (p : ℕ) → bit_pages word bits p ≡ true → p / 64 % k.copiers ≡ copier =
    λ p told. own_word (kept_sizes k) copier word p owns (and_parts _ _ told).0 in
    Goes-from_moves _ _ _ _ (λ history. record {
      needs = Needs-restore (core_with k history) copier word bits owns
          (λ p told. and_from _ _ (eq-eqb _ _ (own p told)) (within p told));
      answers = tt;
      now = record {
        sizes = refl;
        place = λ p. refl;
        marked = more;
        pending = λ g. refl;
        held = λ c p.
            ap (λ b. eqb (p / 64 % k.copiers) c && b) (less p)
            ∙ held_less (p / 64 % k.copiers) c copier (in_words k.held p) (bit_pages word bits p) (own p)
            ∙ one_set (eqb c copier) (minus (held_by k copier) (bit_pages word bits)) (held_by k c) p;
      };
    })

pub Needs-read : (core : DirtyCore) (copier page : ℕ) → CopierOwnsPage core.sizes copier page
    → IsTrue (core.held copier page) → Needs core (Read copier page)
Needs-read core copier page owns held NotOwner = owns
Needs-read core copier page owns held NotHeld = held
Needs-read core copier page owns held _ = tt

pub read_place : (k : Kept) (copier page place : ℕ) (held : List ℕ) → CopierOwnsPage (kept_sizes k) copier page
    → IsTrue (in_words k.held page)
    → place ≡ place_of k page
    → SamePages (in_words held) (minus (in_words k.held) (one_page page))
    → Goes k (Read copier page) (Place place) (kept_with k.places k.dirty held k.pending k.copiers)
read_place k copier page place held owns was read less =
    let owner : page / 64 % k.copiers ≡ copier = owns.word.owner in
    Goes-from_moves _ _ _ _ (λ history. record {
      needs = Needs-read (core_with k history) copier page owns (and_from _ _ (eq-eqb _ _ owner) was);
      answers = read;
      now = record {
        sizes = refl;
        place = λ p. refl;
        marked = λ p. refl;
        pending = λ g. refl;
        held = λ c p.
            ap (λ b. eqb (p / 64 % k.copiers) c && b) (less p)
            ∙ held_less (p / 64 % k.copiers) c copier (in_words k.held p) (one_page page p)
            (λ same. ap (λ n. n / 64 % k.copiers) (eqb-true _ _ same) ∙ owner)
            ∙ one_set (eqb c copier) (minus (held_by k copier) (one_page page)) (held_by k c) p;
      };
    })
