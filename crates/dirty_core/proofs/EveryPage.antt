-- What holds of every page after each legal list of events.
use Rattle.std.proofs.Common.{◌≡◌, ◌≢◌, ℕ, ◌%◌, Bool, true, false, not, ◌&&◌, List, [], ◌∷◌, ◌++◌, Option, Some, None}
use Rattle.std.proofs.Common.{refl, sym, ap, ◌∙◌, inl, inr}
use Rattle.std.specs.Prelude.{IsTrue, IsSome, is_some, ◌⊎◌}
use Rattle.std.specs.List.{fold}
use Rattle.std.proofs.lemmas.Bool.{eqb-true, eq-eqb, ne_eqb, cases_eq, cases_Bool, and_from, or_cases, or_left}
use Rattle.std.proofs.lemmas.Bool.{or_right, both_ways}
use Rattle.dirty_core.specs.declared.event.Event.{Event}
use Rattle.dirty_core.specs.declared.event.Event.TheVariants.{Store, Mark, Harvest, Peek, Restore, Read}
use Rattle.dirty_core.specs.declared.refusal.CoreRefusal.TheVariants.{NotOwner, Pending, NothingPending}
use Rattle.page_bitmap.specs.Pages.{PageSet, one_page, word_pages, bit_pages, union, common, minus}
use Rattle.dirty_core.specs.Start.{Start, GuestOwns, CopierOwns, CopierOwnsPage, guest_of, copier_of}
use Rattle.dirty_core.specs.Machine.{DirtyCore, Visits, last_visit, is_stored, put, with_pending, Needs, after}
use Rattle.dirty_core.specs.Runs.{opened, core_after, IsLegalFrom, IsLegal, IsPending, IsRead, IsCaughtUp, IsOnlyDue}
use Rattle.dirty_core.specs.Runs.{CaughtUp, OnlyDue, KnowsMark}

-- what each event keeps
pub record IsSound (core : DirtyCore) : Type 0 where
  pub caught_up : (page : ℕ) → IsCaughtUp core page
  pub only_due : (page : ℕ) → IsOnlyDue core page
  -- a pending page is its guest's, and was stored
  pub own : (guest page : ℕ) → core.pending guest ≡ Some page → guest_of core.sizes page ≡ guest
  pub pending : (page : ℕ) → IsPending core page → IsTrue (is_stored core page)
  -- returned pages are marked, since only their copier unmarks them
  pub returned : (page : ℕ) → IsTrue (core.returned page) → IsTrue (core.marked page)

-- ---- a function with another value at one argument

pub put_at : {V : Type 0} (f : ℕ → V) (i : ℕ) (v : V) (n : ℕ) → n ≡ i → put f i v n ≡ v
put_at f i v n e = rw (eq-eqb n i e) refl

pub put_else : {V : Type 0} (f : ℕ → V) (i : ℕ) (v : V) (n : ℕ) → n ≢ i → put f i v n ≡ f n
put_else f i v n ne = rw (ne_eqb n i ne) refl

-- ---- the last visit of a page, after one more visit

visited : (page place : ℕ) (others : Visits) → last_visit ((page, place) ∷ others) page ≡ Some place
visited page place others = rw (eq-eqb page page refl) refl

not_visited : (page place other : ℕ) (others : Visits) → other ≢ page
    → last_visit ((page, place) ∷ others) other ≡ last_visit others other
not_visited page place other others ne = rw (ne_eqb page other (λ e. ne (sym e))) refl

-- of a seat's visits, after one more of its own
pub seat_visited : (visits : ℕ → Visits) (seat page place : ℕ) → (owner : ℕ) → owner ≡ seat
    → last_visit (put visits seat ((page, place) ∷ visits seat) owner) page ≡ Some place
seat_visited visits seat page place owner e =
    ap (λ v. last_visit v page) (put_at visits seat ((page, place) ∷ visits seat) owner e)
    ∙ visited page place (visits seat)

pub seat_not_visited : (visits : ℕ → Visits) (seat page place owner other : ℕ) → other ≢ page
    → last_visit (put visits seat ((page, place) ∷ visits seat) owner) other ≡ last_visit (visits owner) other
seat_not_visited visits seat page place owner other ne = elim (cases_eq owner seat) [
  | inl e ↦
      ap (λ v. last_visit v other) (put_at visits seat ((page, place) ∷ visits seat) owner e)
      ∙ not_visited page place other (visits seat) ne ∙ ap (λ s. last_visit (visits s) other) (sym e)
  | inr far ↦ ap (λ v. last_visit v other) (put_else visits seat ((page, place) ∷ visits seat) owner far)
]

-- ---- the sets that seats hold

pub set_at : (f : ℕ → PageSet) (i : ℕ) (v : PageSet) (n page : ℕ) → n ≡ i → put f i v n page ≡ v page
set_at f i v n page e = ap (λ s. s page) (put_at f i v n e)

pub set_else : (f : ℕ → PageSet) (i : ℕ) (v : PageSet) (n page : ℕ) → n ≢ i → put f i v n page ≡ f n page
set_else f i v n page ne = ap (λ s. s page) (put_else f i v n ne)

-- a held page that the seat's new set keeps
still_held : (f : ℕ → PageSet) (i : ℕ) (v : PageSet) (n page : ℕ) → IsTrue (f n page) → (n ≡ i → IsTrue (v page))
    → IsTrue (put f i v n page)
still_held f i v n page held kept = elim (cases_eq n i) [
  | inl e ↦ set_at f i v n page e ∙ kept e
  | inr ne ↦ set_else f i v n page ne ∙ held
]

pub cases_four : {A B C D R : Type 0} → (A → R) → (B → R) → (C → R) → (D → R) → A ⊎ (B ⊎ (C ⊎ D)) → R
cases_four a b c d (inl x) = a x
cases_four a b c d (inr (inl x)) = b x
cases_four a b c d (inr (inr (inl x))) = c x
cases_four a b c d (inr (inr (inr x))) = d x

pub either : {A B R : Type 0} → (A → R) → (B → R) → A ⊎ B → R
either a b (inl x) = a x
either a b (inr x) = b x

pub same_page : (p q : ℕ) → Some p ≡ Some q → p ≡ q
same_page p q e = cc

pub no_page_is : (o : Option ℕ) (q : ℕ) → o ≡ None → o ≡ Some q → ⊥
no_page_is o q a b = absurd cc

-- a page of one set that is not in another
pub minus_from : (a b : Bool) → a ≡ true → (b ≡ true → ⊥) → (a && not b) ≡ true
minus_from true true is none = absurd (none refl)
minus_from true false is none = refl
minus_from false b is none = absurd cc

pub minus_part : (a b : Bool) → (a && not b) ≡ true → (a ≡ true) × (b ≡ true → ⊥)
minus_part true true is = absurd cc
minus_part true false is = (refl, λ e. absurd cc)
minus_part false b is = absurd cc

-- ---- a store

stored_else : (core : DirtyCore) (guest page place other : ℕ) → other ≢ page
    → is_stored (after core (Store guest page place)) other ≡ is_stored core other
stored_else core guest page place other ne = ap is_some (seat_not_visited core.stores guest page place
    (guest_of core.sizes other) other ne)

stored_here : (core : DirtyCore) (guest page place other : ℕ) → guest_of core.sizes page ≡ guest → other ≡ page
    → is_stored (after core (Store guest page place)) other ≡ true
stored_here core guest page place other owner e =
    ap (λ p. is_some (last_visit (put core.stores guest ((page, place) ∷ core.stores guest) (guest_of core.sizes p)) p))
    e
    ∙ ap is_some (seat_visited core.stores guest page place (guest_of core.sizes page) owner)

pub stored_still : (core : DirtyCore) (guest page place other : ℕ) → guest_of core.sizes page ≡ guest
    → IsTrue (is_stored core other)
    → IsTrue (is_stored (after core (Store guest page place)) other)
stored_still core guest page place other owner was = elim (cases_eq other page) [
  | inl e ↦ stored_here core guest page place other owner e
  | inr ne ↦ stored_else core guest page place other ne ∙ was
]

pending_else : (core : DirtyCore) (guest page place other : ℕ) → core.pending guest ≡ None → IsPending core other
    → IsPending (after core (Store guest page place)) other
pending_else core guest page place other free was = elim (cases_eq (guest_of core.sizes other) guest) [
  | inl e ↦ absurd (no_page_is (core.pending guest) other free (ap core.pending (sym e) ∙ was))
  | inr far ↦ put_else core.pending guest (Some page) (guest_of core.sizes other) far ∙ was
]

IsSound-store : (core : DirtyCore) (guest page place : ℕ) → GuestOwns core.sizes guest page → core.pending guest ≡ None
    → IsSound core
    → IsSound (after core (Store guest page place))
IsSound-store core guest page place owns free sound = record {
  caught_up = λ q before. elim (cases_eq q page) [
    | inl e ↦ inr (inr (inl (
        put_at core.pending guest (Some page) (guest_of core.sizes q) (ap (guest_of core.sizes) e ∙ owns.owner)
        ∙ ap Some (sym e))))
    | inr ne ↦
        let was : IsTrue (core.at_opening q) ⊎ IsTrue (is_stored core q) =
        either (λ opening. inl opening) (λ stored. inr (sym (stored_else core guest page place q ne) ∙ stored))
        before in
        cases_four (λ marked. inl marked) (λ held. inr (inl held))
        (λ pending. inr (inr (inl (pending_else core guest page place q free pending))))
        (λ read. inr (inr (inr (read ∙ ap Some (sym (put_else core.place page place q ne))))))
        (sound.caught_up q was)
  ];
  only_due = λ q marked.
      either (λ stored. inl (stored_still core guest page place q owns.owner stored)) (λ returned. inr returned)
      (sound.only_due q marked);
  own = λ g q pending. elim (cases_eq g guest) [
    | inl e ↦
        let same : page ≡ q = same_page page q (sym (put_at core.pending guest (Some page) g e) ∙ pending) in
        ap (guest_of core.sizes) (sym same) ∙ owns.owner ∙ sym e
    | inr far ↦ sound.own g q (sym (put_else core.pending guest (Some page) g far) ∙ pending)
  ];
  pending = λ q pending. elim (cases_eq q page) [
    | inl e ↦ stored_here core guest page place q owns.owner e
    | inr ne ↦ elim (cases_eq (guest_of core.sizes q) guest) [
      | inl e ↦ absurd (ne (sym (same_page page q (sym (put_at core.pending guest (Some page) (guest_of core.sizes q) e)
          ∙ pending))))
      | inr far ↦
          stored_else core guest page place q ne
          ∙ sound.pending q (sym (put_else core.pending guest (Some page) (guest_of core.sizes q) far) ∙ pending)
    ]
  ];
  returned = sound.returned;
}

-- ---- a mark

IsSound-marked : (core : DirtyCore) (guest page : ℕ) (o : Option ℕ) → core.pending guest ≡ o → o ≡ Some page
    → IsSound core
    → IsSound (record core { marked = with_pending core.marked o; pending = put core.pending guest None })
IsSound-marked core guest page None is some sound = absurd cc
IsSound-marked core guest page (Some p) is some sound =
    let still : (q : ℕ) → IsTrue (core.marked q) → IsTrue (union core.marked (one_page p) q) =
    λ q marked. or_left _ _ marked in
    record {
      caught_up = λ q before.
          cases_four (λ marked. inl (still q marked)) (λ held. inr (inl held))
          (λ pending. elim (cases_eq (guest_of core.sizes q) guest) [
            | inl e ↦ inl (or_right _ _ (eq-eqb q p (sym (same_page p q (sym is ∙ ap core.pending (sym e) ∙ pending)))))
            | inr far ↦ inr (inr (inl (put_else core.pending guest None (guest_of core.sizes q) far ∙ pending)))
          ])
          (λ read. inr (inr (inr read)))
          (sound.caught_up q before);
      only_due = λ q marked.
          either (λ was. sound.only_due q was)
          (λ now. inl (let e : q ≡ p = eqb-true q p now in
          sound.pending q (ap core.pending (ap (guest_of core.sizes) e ∙ sound.own guest p is) ∙ is ∙ ap Some (sym e))))
          (or_cases _ _ marked);
      own = λ g q pending. elim (cases_eq g guest) [
        | inl e ↦ absurd (no_page_is _ q (put_at core.pending guest None g e) pending)
        | inr far ↦ sound.own g q (sym (put_else core.pending guest None g far) ∙ pending)
      ];
      pending = λ q pending. elim (cases_eq (guest_of core.sizes q) guest) [
        | inl e ↦ absurd (no_page_is _ q (put_at core.pending guest None (guest_of core.sizes q) e) pending)
        | inr far ↦ sound.pending q (sym (put_else core.pending guest None (guest_of core.sizes q) far) ∙ pending)
      ];
      returned = λ q returned. still q (sound.returned q returned);
    }

-- ---- a harvest

IsSound-harvest : (core : DirtyCore) (copier word : ℕ) → CopierOwns core.sizes copier word → IsSound core
    → IsSound (after core (Harvest copier word))
IsSound-harvest core copier word owns sound =
    let taken : PageSet = union (core.held copier) (common (word_pages word) core.marked) in
    let own : (q : ℕ) → word_pages word q ≡ true → copier_of core.sizes q ≡ copier =
    λ q inside. ap (λ w. w % core.sizes.copiers) (eqb-true _ _ inside) ∙ owns.owner in
    record {
      caught_up = λ q before.
          cases_four
          (λ marked. elim (cases_Bool (word_pages word q)) [
            | inl inside ↦ inr (inl (set_at core.held copier taken (copier_of core.sizes q) q (own q inside)
                ∙ or_right (core.held copier q) _ (and_from _ _ inside marked)))
            | inr outside ↦ inl (minus_from _ _ marked (both_ways _ outside))
          ])
          (λ held. inr (inl (still_held core.held copier taken (copier_of core.sizes q) q held
          (λ e. or_left _ _ (ap (λ c. core.held c q) (sym e) ∙ held)))))
          (λ pending. inr (inr (inl pending)))
          (λ read. inr (inr (inr read)))
          (sound.caught_up q before);
      only_due = λ q marked.
          let parts = minus_part _ _ marked in
          either (λ stored. inl stored) (λ returned. inr (minus_from _ _ returned parts.1)) (sound.only_due q parts.0);
      own = sound.own;
      pending = sound.pending;
      returned = λ q returned. let parts = minus_part _ _ returned in minus_from _ _ (sound.returned q parts.0) parts.1;
    }

-- ---- a restore

IsSound-restore : (core : DirtyCore) (copier word bits : ℕ) → IsSound core
    → IsSound (after core (Restore copier word bits))
IsSound-restore core copier word bits sound =
    let back : PageSet = bit_pages word bits in
    record {
      caught_up = λ q before.
          cases_four (λ marked. inl (or_left _ _ marked))
          (λ held. elim (cases_Bool (back q)) [
            | inl inside ↦ inl (or_right _ _ inside)
            | inr outside ↦ inr (inl (still_held core.held copier (minus (core.held copier) back)
                (copier_of core.sizes q) q held
                (λ e. minus_from _ _ (ap (λ c. core.held c q) (sym e) ∙ held) (both_ways _ outside))))
          ])
          (λ pending. inr (inr (inl pending)))
          (λ read. inr (inr (inr read)))
          (sound.caught_up q before);
      only_due = λ q marked.
          either
          (λ was. either (λ stored. inl stored) (λ returned. inr (or_left _ _ returned)) (sound.only_due q was))
          (λ inside. inr (or_right _ _ inside))
          (or_cases _ _ marked);
      own = sound.own;
      pending = sound.pending;
      returned = λ q returned.
          either (λ was. or_left _ _ (sound.returned q was)) (λ inside. or_right _ _ inside) (or_cases _ _ returned);
    }

-- ---- a read

IsSound-read : (core : DirtyCore) (copier page : ℕ) → CopierOwnsPage core.sizes copier page → IsSound core
    → IsSound (after core (Read copier page))
IsSound-read core copier page owns sound =
    let left : PageSet = minus (core.held copier) (one_page page) in
    let here : (q : ℕ) → q ≡ page → IsRead (after core (Read copier page)) q =
    λ q e. ap (λ p. last_visit (put core.reads copier ((page, core.place page) ∷ core.reads copier)
    (copier_of core.sizes p)) p) e
    ∙ seat_visited core.reads copier page (core.place page) (copier_of core.sizes page) owns.word.owner
    ∙ ap (λ p. Some (core.place p)) (sym e) in
    record {
      caught_up = λ q before. elim (cases_eq q page) [
        | inl e ↦ inr (inr (inr (here q e)))
        | inr ne ↦
            cases_four (λ marked. inl marked)
            (λ held. inr (inl (still_held core.held copier left (copier_of core.sizes q) q held
            (λ e. minus_from _ _ (ap (λ c. core.held c q) (sym e) ∙ held) (λ same. ne (eqb-true _ _ same))))))
            (λ pending. inr (inr (inl pending)))
            (λ read. inr (inr (inr (seat_not_visited core.reads copier page (core.place page) (copier_of core.sizes q) q
            ne ∙ read))))
            (sound.caught_up q before)
      ];
      only_due = sound.only_due;
      own = sound.own;
      pending = sound.pending;
      returned = sound.returned;
    }

-- ---- every event, and every legal list of events

pub some_page : (o : Option ℕ) → IsSome o → (page : ℕ) × (o ≡ Some page)
some_page None is = absurd cc
some_page (Some page) is = (page, refl)

pub IsSound-after : (core : DirtyCore) (event : Event) → Needs core event → IsSound core → IsSound (after core event)
IsSound-after core (Store guest page place) needs sound = IsSound-store core guest page place (needs NotOwner)
    (needs Pending) sound
IsSound-after core (Mark guest) needs sound =
    let some = some_page (core.pending guest) (needs NothingPending) in
    IsSound-marked core guest some.0 (core.pending guest) refl some.1 sound
IsSound-after core (Harvest copier word) needs sound = IsSound-harvest core copier word (needs NotOwner) sound
IsSound-after core (Peek copier word) needs sound = sound
IsSound-after core (Restore copier word bits) needs sound = IsSound-restore core copier word bits sound
IsSound-after core (Read copier page) needs sound = IsSound-read core copier page (needs NotOwner) sound

pub IsSound-opened : (start : Start) → IsSound (opened start)
IsSound-opened start = record {
  caught_up = λ q before. either (λ opening. inl opening) (λ stored. absurd cc) before;
  only_due = λ q marked. inr marked;
  own = λ g q pending. absurd cc;
  pending = λ q pending. absurd cc;
  returned = λ q returned. returned;
}

pub IsSound-run : (core : DirtyCore) (events : List Event) → IsLegalFrom core events → IsSound core
    → IsSound (fold after core events)
IsSound-run core [] legal sound = sound
IsSound-run core (event ∷ events) legal sound = IsSound-run (after core event) events legal.1
    (IsSound-after core event legal.0 sound)

pub CaughtUp-run : (start : Start) (events : List Event) → IsLegal start events → CaughtUp (core_after start events)
CaughtUp-run start events legal = (IsSound-run (opened start) events legal (IsSound-opened start)).caught_up

pub OnlyDue-run : (start : Start) (events : List Event) → IsLegal start events → OnlyDue (core_after start events)
OnlyDue-run start events legal = (IsSound-run (opened start) events legal (IsSound-opened start)).only_due

pub KnowsMark-run : (start : Start) (events : List Event) → IsLegal start events → (page : ℕ)
    → KnowsMark (core_after start events) page
KnowsMark-run start events legal page =
    let sound = IsSound-run (opened start) events legal (IsSound-opened start) in
    record { pending = sound.pending page; returned = sound.returned page }

-- ---- one more event at the end

pub core_after-push : (core : DirtyCore) (events : List Event) (event : Event)
    → fold after core (events ++ event ∷ []) ≡ after (fold after core events) event
core_after-push core [] event = refl
core_after-push core (first ∷ events) event = core_after-push (after core first) events event

pub IsLegalFrom-push : (core : DirtyCore) (events : List Event) (event : Event) → IsLegalFrom core events
    → Needs (fold after core events) event
    → IsLegalFrom core (events ++ event ∷ [])
IsLegalFrom-push core [] event legal needs = (needs, tt)
IsLegalFrom-push core (first ∷ events) event legal needs = (
  legal.0,
  IsLegalFrom-push (after core first) events event legal.1 needs,
)
