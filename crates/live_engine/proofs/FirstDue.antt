-- What the first round owes.
use Rattle.std.proofs.Common.{ℕ, ◌-◌, ◌<◌, ◌≤◌, ◌↔◌, inl, inr, [], Some, None, ap, arith}
use Rattle.std.proofs.lemmas.Bool.{cases_lt}
use Rattle.std.proofs.lemmas.Option.{none-some, slice_get_within, get_or_from_slice_get}
use Rattle.migration_model.specs.Trace.{GuestTrace, GuestWrite, IsTrace}
use Rattle.migration_model.specs.Versions.{IsWritten, version_before}
use Rattle.migration_model.specs.Live.{IsDue, IsPlaceOf}
use Rattle.migration_model.proofs.Placed.{version_is_greatest, version_is_place}
use Rattle.live_engine.proofs.Running.{written_or_not}
use Rattle.live_engine.proofs.Visits.{version_stays, written_has_place}

-- a write from a tick on has a place above the version before that tick
place_above : (trace : GuestTrace) (page from to place : ℕ) → IsTrace trace → IsPlaceOf trace page from to place
    → version_before trace page from < place
place_above trace page from to place trace_is is = elim (version_is_place trace page from) [
  | inl zero ↦ omega (arith, zero, is.some)
  | inr before ↦ elim (cases_lt (version_before trace page from) place) [
    | inl below ↦ below
    | inr above ↦
        let version : ℕ = version_before trace page from in
        let low = slice_get_within trace.writes (version - 1) before.write before.there in
        let one = ap (λ (w : GuestWrite). w.tick) (get_or_from_slice_get trace.writes (place - 1) is.write is.write
        is.there) in
        let two = ap (λ (w : GuestWrite). w.tick) (get_or_from_slice_get trace.writes (version - 1) before.write
        is.write before.there) in
        let order = trace_is.writes.in_order (place - 1) (version - 1) is.write (omega (arith, above)) low in
        absurd (omega (arith, order, one, two, is.low, before.high))
  ]
]

version_above : (trace : GuestTrace) (page from to : ℕ) → IsTrace trace → IsWritten trace from to page
    → version_before trace page from < version_before trace page to
version_above trace page from to trace_is written =
    let place = written_has_place trace page from to written in
    let above = place_above trace page from to place.0 trace_is place.1 in
    let greatest = version_is_greatest trace page from to place.0 place.1 in
    omega (arith, above, greatest)

pub all_due : (trace : GuestTrace) (start page : ℕ) → IsDue trace None start [] page
all_due trace start page = inr (λ was. elim was [
  | inl first ↦ first
  | inr sent ↦ (let low = sent.2 in omega (arith, low))
])

pub written_due : (trace : GuestTrace) (base start page : ℕ) → IsTrace trace → base ≤ start
    → IsDue trace (Some base) start [] page ↔ IsWritten trace base start page
written_due trace base start page trace_is le = (
  λ due. elim due [
    | inl put_off ↦ absurd (none-some put_off.0 put_off.1)
    | inr never ↦ elim (written_or_not trace base start page) [
      | inl written ↦ written
      | inr not_written ↦ absurd (never (inl (let same = version_stays trace page base start le not_written in omega
          (arith, same))))
    ]
  ],
  λ written. inr (λ was. elim was [
    | inl first ↦ (let above = version_above trace page base start trace_is written in omega (arith, above, first))
    | inr sent ↦ (let low = sent.2 in omega (arith, low))
  ]),
)
