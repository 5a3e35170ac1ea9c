-- What the history says of every page's place after each legal list of events.
use Rattle.std.proofs.Common.{◌≡◌, ℕ, ◌<◌, ◌≤◌, List, [], ◌∷◌, refl, sym, ap, subst, ◌∙◌, arith, inl, inr}
use Rattle.std.specs.Prelude.{◌⊎◌, unwrap_or, slice_index}
use Rattle.std.specs.List.{fold}
use Rattle.std.proofs.lemmas.Bool.{cases_eq, eq-eqb, ne_eqb}
use Rattle.dirty_core.specs.declared.event.Event.{Event}
use Rattle.dirty_core.specs.declared.event.Event.TheVariants.{Store, Mark, Harvest, Peek, Restore, Read}
use Rattle.dirty_core.specs.declared.refusal.CoreRefusal.TheVariants.{NotOwner, OldPlace}
use Rattle.dirty_core.specs.Start.{Start, GuestOwns, guest_of, copier_of}
use Rattle.dirty_core.specs.Machine.{DirtyCore, Visits, last_visit, put, Needs, after}
use Rattle.dirty_core.specs.Runs.{opened, core_after, IsLegalFrom, IsLegal, place_after, Rises, IsVisited, KnowsPlace}
use Rattle.dirty_core.specs.Runs.{IsOverReads}
use Rattle.dirty_core.proofs.EveryPage.{put_at, put_else, seat_visited, seat_not_visited, either}

-- a place after some visits is the place before them, or that of one of them
place_known : (before : ℕ) (visits : Visits) (page : ℕ) → (place_after before visits page ≡ before)
    ⊎ IsVisited visits page (place_after before visits page)
place_known before [] page = inl refl
place_known before (visit ∷ others) page = elim (cases_eq visit.0 page) [
  | inl e ↦ inr (inl (e, rw (eq-eqb visit.0 page e) refl))
  | inr ne ↦ rw (ne_eqb visit.0 page ne)
      (either (λ same. inl same) (λ visited. inr (inr visited)) (place_known before others page))
]

-- ---- a store

Knows-store : (start : Start) (core : DirtyCore) (guest page place q : ℕ) → GuestOwns core.sizes guest page
    → core.place page < place
    → KnowsPlace start core q → KnowsPlace start (after core (Store guest page place)) q
Knows-store start core guest page place q owns over known =
    let first : ℕ = slice_index start.places q in
    let more : Visits = (page, place) ∷ core.stores guest in
    let seat : ℕ = guest_of core.sizes q in
    record {
      place = elim (cases_eq q page) [
        | inl e ↦
            put_at core.place page place q e
            ∙ sym (ap (λ o. unwrap_or o first) (ap (λ p. last_visit (put core.stores guest more seat) p) e
            ∙ seat_visited core.stores guest page place seat (ap (guest_of core.sizes) e ∙ owns.owner)))
        | inr ne ↦
            put_else core.place page place q ne ∙ known.place
            ∙ sym (ap (λ o. unwrap_or o first) (seat_not_visited core.stores guest page place seat q ne))
      ];
      rises = elim (cases_eq seat guest) [
        | inl e ↦
            let visits : core.stores seat ≡ core.stores guest = ap core.stores e in
            let rose : Rises first (core.stores guest) q = subst (λ v. Rises first v q) visits known.rises in
            let step : page ≡ q → place_after first (core.stores guest) q < place = λ same.
            subst (λ v. place_after first v q < place) visits
            (subst (λ n. n < place) (ap core.place same ∙ known.place) over) in
            let all : Rises first more q = (step, rose) in
            subst (λ v. Rises first v q) (sym (put_at core.stores guest more seat e)) all
        | inr far ↦ subst (λ v. Rises first v q) (sym (put_else core.stores guest more seat far)) known.rises
      ];
      read = λ n visited. either (λ opening. inl opening)
          (λ stored. inr (elim (cases_eq seat guest) [
            | inl e ↦
                let now : IsVisited more q n = inr (subst (λ v. IsVisited v q n) (ap core.stores e) stored) in
                subst (λ v. IsVisited v q n) (sym (put_at core.stores guest more seat e)) now
            | inr far ↦ subst (λ v. IsVisited v q n) (sym (put_else core.stores guest more seat far)) stored
          ]))
          (known.read n visited);
    }

-- ---- a read

Knows-read : (start : Start) (core : DirtyCore) (copier page q : ℕ) → KnowsPlace start core q
    → KnowsPlace start (after core (Read copier page)) q
Knows-read start core copier page q known =
    let first : ℕ = slice_index start.places q in
    let more : Visits = (page, core.place page) ∷ core.reads copier in
    let seat : ℕ = copier_of core.sizes q in
    let stores : Visits = core.stores (guest_of core.sizes q) in
    let current : (core.place q ≡ first) ⊎ IsVisited stores q (core.place q) =
    subst (λ n. (n ≡ first) ⊎ IsVisited stores q n) (sym known.place) (place_known first stores q) in
    record {
      place = known.place;
      rises = known.rises;
      read = λ n visited. elim (cases_eq seat copier) [
        | inl e ↦
            let now : IsVisited more q n = subst (λ v. IsVisited v q n) (put_at core.reads copier more seat e)
            visited in
            either
            (λ here. subst (λ m. (m ≡ first) ⊎ IsVisited stores q m) (ap core.place (sym here.0) ∙ here.1) current)
            (λ old. known.read n (subst (λ v. IsVisited v q n) (sym (ap core.reads e)) old))
            now
        | inr far ↦ known.read n (subst (λ v. IsVisited v q n) (put_else core.reads copier more seat far) visited)
      ];
    }

-- ---- every event, and every legal list of events

Knows-after : (start : Start) (core : DirtyCore) (event : Event) (q : ℕ) → Needs core event → KnowsPlace start core q
    → KnowsPlace start (after core event) q
Knows-after start core (Store guest page place) q needs known =
    Knows-store start core guest page place q (needs NotOwner) (needs OldPlace) known
Knows-after start core (Mark guest) q needs known = record {
  place = known.place;
  rises = known.rises;
  read =
      known.read;
}
Knows-after start core (Harvest copier word) q needs known =
    record { place = known.place; rises = known.rises; read = known.read }
Knows-after start core (Peek copier word) q needs known = known
Knows-after start core (Restore copier word bits) q needs known =
    record { place = known.place; rises = known.rises; read = known.read }
Knows-after start core (Read copier page) q needs known = Knows-read start core copier page q known

Knows-run : (start : Start) (core : DirtyCore) (events : List Event) (q : ℕ) → IsLegalFrom core events
    → KnowsPlace start core q
    → KnowsPlace start (fold after core events) q
Knows-run start core [] q legal known = known
Knows-run start core (event ∷ events) q legal known =
    Knows-run start (after core event) events q legal.1 (Knows-after start core event q legal.0 known)

pub KnowsPlace-run : (start : Start) (events : List Event) → IsLegal start events → (page : ℕ)
    → KnowsPlace start (core_after start events) page
KnowsPlace-run start events legal page =
    Knows-run start (opened start) events page legal (record {
      place = refl;
      rises = tt;
      read =
          λ n visited. absurd visited;
    })

-- ---- no place read is above the current one

pub before_below : (before : ℕ) (visits : Visits) (page : ℕ) → Rises before visits page
    → before ≤ place_after before visits page
before_below before [] page rises = omega arith
before_below before (visit ∷ others) page rises =
    let low = before_below before others page rises.1 in
    elim (cases_eq visit.0 page) [
      | inl e ↦ let over = rises.0 e in rw (eq-eqb visit.0 page e) (omega (arith, low, over))
      | inr ne ↦ rw (ne_eqb visit.0 page ne) low
    ]

pub visit_below : (before : ℕ) (visits : Visits) (page place : ℕ) → Rises before visits page
    → IsVisited visits page place
    → place ≤ place_after before visits page
visit_below before [] page place rises visited = absurd visited
visit_below before (visit ∷ others) page place rises (inl here) =
    let is : visit.1 ≡ place = here.1 in
    rw (eq-eqb visit.0 page here.0) (omega (arith, is))
visit_below before (visit ∷ others) page place rises (inr there) =
    let low = visit_below before others page place rises.1 there in
    elim (cases_eq visit.0 page) [
      | inl e ↦ let over = rises.0 e in rw (eq-eqb visit.0 page e) (omega (arith, low, over))
      | inr ne ↦ rw (ne_eqb visit.0 page ne) low
    ]

pub IsOverReads-known : (start : Start) (core : DirtyCore) (page : ℕ) → KnowsPlace start core page
    → IsOverReads start core page
IsOverReads-known start core page known =
    let first : ℕ = slice_index start.places page in
    let stores : Visits = core.stores (guest_of core.sizes page) in
    let low = before_below first stores page known.rises in
    let is = known.place in
    record {
      opening = omega (arith, low, is);
      read = λ place visited. either
          (λ same. let e : place ≡ first = same in omega (arith, low, is, e))
          (λ stored. let below = visit_below first stores page place known.rises stored in omega (arith, below, is))
          (known.read place visited);
    }

pub IsOverReads-run : (start : Start) (events : List Event) → IsLegal start events → (page : ℕ)
    → IsOverReads start (core_after start events) page
IsOverReads-run start events legal page = IsOverReads-known start (core_after start events) page
    (KnowsPlace-run start events legal page)
