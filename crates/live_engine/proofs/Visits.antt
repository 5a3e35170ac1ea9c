-- Visits of pages, and the places of a trace's writes.
use Rattle.std.proofs.Common.{◌≡◌, ℕ, ◌+◌, ◌-◌, ◌≤◌, inl, inr, true, eqb, [], ◌∷◌, refl, sym, ap, ◌∙◌, arith}
use Rattle.std.specs.Prelude.{Option, Some, None, IsTrue, is_some, unwrap_or, slice_get}
use Rattle.std.proofs.lemmas.Bool.{cases_eq, cases_lt, cond-true, cond-false, eq-eqb, ne_eqb, false≢true}
use Rattle.std.proofs.lemmas.Option.{none-some, same_Some, slice_get_within, get_or_from_slice_get, slice_get-get_or}
use Rattle.migration_model.specs.Trace.{GuestTrace}
use Rattle.migration_model.specs.Versions.{IsWritten, version_before}
use Rattle.migration_model.specs.Live.{IsPlaceOf}
use Rattle.migration_model.proofs.Placed.{version_is_place, version_is_greatest, version_rises}
use Rattle.dirty_core.specs.Machine.{Visits, last_visit}
use Rattle.dirty_core.specs.Runs.{IsVisited, Rises, place_after}
use Rattle.dirty_core.proofs.EveryPlace.{before_below, visit_below}

pub last_is_visit : (visits : Visits) (page place : ℕ) → last_visit visits page ≡ Some place
    → IsVisited visits page place
last_is_visit [] page place is = absurd (none-some place is)
last_is_visit (v ∷ vs) page place is = elim (cases_eq v.0 page) [
  | inl e ↦ inl (
    e,
    same_Some v.1 place (sym (cond-true (eqb v.0 page) (Some v.1) (last_visit vs page)
        (eq-eqb v.0 page e)) ∙ is),
  )
  | inr apart ↦ inr (last_is_visit vs page place (sym
      (cond-false (eqb v.0 page) (Some v.1) (last_visit vs page) (ne_eqb v.0 page apart)) ∙ is))
]

pub visit_has_last : (visits : Visits) (page place : ℕ) → IsVisited visits page place → (last : ℕ)
    × (last_visit visits page ≡ Some last)
visit_has_last [] page place is = absurd is
visit_has_last (v ∷ vs) page place is = elim (cases_eq v.0 page) [
  | inl e ↦ (v.1, cond-true (eqb v.0 page) (Some v.1) (last_visit vs page) (eq-eqb v.0 page e))
  | inr apart ↦ elim is [
    | inl same ↦ absurd (apart same.0)
    | inr before ↦
        let rest = visit_has_last vs page place before in
        (rest.0, cond-false (eqb v.0 page) (Some v.1) (last_visit vs page) (ne_eqb v.0 page apart) ∙ rest.1)
  ]
]

some_case : (visits : Visits) (page : ℕ) (o : Option ℕ) → last_visit visits page ≡ o → is_some (last_visit visits page)
    ≡ true → (place : ℕ) × IsVisited visits page place
some_case visits page None e is = absurd (false≢true (sym (ap is_some e) ∙ is))
some_case visits page (Some place) e is = (place, last_is_visit visits page place e)

pub stored_is_visit : (visits : Visits) (page : ℕ) → IsTrue (is_some (last_visit visits page)) → (place : ℕ)
    × IsVisited visits page place
stored_is_visit visits page is = some_case visits page (last_visit visits page) refl is

-- ---- writes and places

pub place_is_written : (trace : GuestTrace) (page from to place : ℕ) → IsPlaceOf trace page from to place
    → IsWritten trace from to page
place_is_written trace page from to place is =
    let low = slice_get_within trace.writes (place - 1) is.write is.there in (
      place - 1,
      is.write,
      low,
      get_or_from_slice_get trace.writes (place - 1) is.write is.write is.there,
      (is.page_is, is.low, is.high),
    )

pub written_has_place : (trace : GuestTrace) (page from to : ℕ) → IsWritten trace from to page → (place : ℕ)
    × IsPlaceOf trace page from to place
written_has_place trace page from to is =
    let index : is.0 + 1 - 1 ≡ is.0 = omega arith in (
      is.0 + 1,
      record {
        write = is.1;
        some = omega arith;
        there = ap (slice_get trace.writes) index ∙ slice_get-get_or trace.writes is.0 is.1 is.2 ∙ ap Some is.3;
        page_is = is.4.0;
        low = is.4.1;
        high = is.4.2;
      },
    )

-- a page that isn't written between two ticks keeps its version
pub version_stays : (trace : GuestTrace) (page from to : ℕ) → from ≤ to → (IsWritten trace from to page → ⊥)
    → version_before trace page to ≡ version_before trace page from
version_stays trace page from to le none = elim (version_is_place trace page to) [
  | inl zero ↦ (let up = version_rises trace page from to le in omega (arith, zero, up))
  | inr is ↦ elim (cases_lt is.write.tick from) [
    | inl before ↦
        let low = version_is_greatest trace page 0 from (version_before trace page to)
        (record {
          write = is.write;
          some = is.some;
          there = is.there;
          page_is = is.page_is;
          low = is.low;
          high = before;
        }) in
        let up = version_rises trace page from to le in
        omega (arith, low, up)
    | inr later ↦ absurd (none (place_is_written trace page from to (version_before trace page to)
        (record {
          write = is.write;
          some = is.some;
          there = is.there;
          page_is = is.page_is;
          low = later;
          high = is.high;
        })))
  ]
]

last_case : (trace : GuestTrace) (page from to before : ℕ) (stores : Visits) (o : Option ℕ) → from ≤ to → before
    ≡ version_before trace page from
    → ((place : ℕ) → IsVisited stores page place → IsPlaceOf trace page from to place) → last_visit stores page ≡ o
    → place_after before stores page ≤ version_before trace page to
last_case trace page from to before stores None le opening stored e =
    let same : place_after before stores page ≡ before = ap (λ (x : Option ℕ). unwrap_or x before) e in
    let up = version_rises trace page from to le in
    omega (arith, same, opening, up)
last_case trace page from to before stores (Some place) le opening stored e =
    let same : place_after before stores page ≡ place = ap (λ (x : Option ℕ). unwrap_or x before) e in
    let low = version_is_greatest trace page from to place (stored place (last_is_visit stores page place e)) in
    omega (arith, same, low)

-- The place after a guest's stores of a page, which are those of its writes between two ticks, is its version.
pub version_stored : (trace : GuestTrace) (page from to before : ℕ) (stores : Visits) → from ≤ to → before
    ≡ version_before trace page from → Rises before stores page
    → ((place : ℕ) → IsVisited stores page place → IsPlaceOf trace page from to place)
    → ((place : ℕ) → IsPlaceOf trace page from to place → IsVisited stores page place)
    → place_after before stores page ≡ version_before trace page to
version_stored trace page from to before stores le opening up stored all =
    let low : place_after before stores page ≤ version_before trace page to = last_case trace page from to before stores
    (last_visit stores page) le opening stored refl in
    let high : version_before trace page to ≤ place_after before stores page = elim (version_is_place trace page to) [
      | inl zero ↦ omega (arith, zero)
      | inr is ↦ elim (cases_lt is.write.tick from) [
        | inl earlier ↦
            let first = version_is_greatest trace page 0 from (version_before trace page to)
            (record {
              write = is.write;
              some = is.some;
              there = is.there;
              page_is = is.page_is;
              low = is.low;
              high =
                  earlier;
            }) in
            omega (arith, first, opening, before_below before stores page up)
        | inr later ↦ visit_below before stores page (version_before trace page to) up
            (all (version_before trace page to) (record {
              write = is.write;
              some = is.some;
              there = is.there;
              page_is =
                  is.page_is;
              low = later;
              high = is.high;
            }))
      ]
    ] in
    omega (arith, low, high)
