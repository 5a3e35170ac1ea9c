-- What a search among the places of a page tells.
use Rattle.std.proofs.Common.{◌≡◌, ℕ, ◌+◌, ◌-◌, ◌<◌, ◌≤◌, leb, ltb, eqb, List, length, take, drop, get_or, max, refl, sym, ap, ◌∙◌}
use Rattle.std.proofs.Common.{arith, subst}
use Rattle.std.specs.List.{All, filter, fold}
use Rattle.std.specs.List.Sorted.{IsNonDecreasing}
use Rattle.std.proofs.lemmas.List.{drop_all, get_or-drop, get_or-take, length-take}
use Rattle.std.proofs.lemmas.List.Elements.{All-weaker}
use Rattle.std.proofs.lemmas.List.Sorted.{IsNonDecreasingBy-take}
use Rattle.migration_model.specs.Touches.{touches_of}
use Rattle.migration_model.specs.Trace.{GuestTrace, GuestWrite, IsTrace}
use Rattle.migration_model.specs.Versions.{page_at}
use Rattle.page_versions.specs.Index.{index_with, places_of, version_after}
use Rattle.page_versions.specs.Layout.{IsCountTo}
use Rattle.page_versions.specs.Pages.{put_all}
use Rattle.page_versions.proofs.Later.{later_page}
use Rattle.page_versions.proofs.Places.{bounds, places_of_is, places_rise, same_places}
use Rattle.page_versions.proofs.Searches.{after_is, filter_back, filter_front, greatest_last}
use Rattle.open_traces.specs.Index.{next_after}

-- the places of a page rise
pub places_of_rise : (trace : GuestTrace) (page : ℕ) → IsNonDecreasing (places_of trace page)
places_of_rise trace page = subst IsNonDecreasing (same_places trace page) (places_rise (touches_of trace) page)

-- and are places of the trace
pub places_of_fit : (trace : GuestTrace) (page : ℕ)
    → All (λ v. (1 ≤ v) × (v ≤ length trace.writes)) (places_of trace page)
places_of_fit trace page =
    subst (All (λ v. (1 ≤ v) × (v ≤ length trace.writes))) (sym (places_of_is trace page))
    (All-weaker (λ (v : ℕ). (1 ≤ v) × (v < 1 + length trace.writes)) (λ (v : ℕ). (1 ≤ v) × (v ≤ length trace.writes))
    (λ v b. (b.0, omega (arith, b.1))) _ (bounds (λ (w : GuestWrite). eqb w.page page) 1 trace.writes))

-- none is within the first writes
pub version_none : (trace : GuestTrace) (page count few : ℕ) → IsCountTo (places_of trace page) count few → few ≡ 0
    → 0 ≡ version_after trace page count
version_none trace page count few point none =
    sym (ap (λ (l : List ℕ). fold max 0 l)
    (filter_front (λ v. leb v count) (places_of trace page) few point.0 point.1
    ∙ ap (λ (n : ℕ). take n (places_of trace page)) none))

-- or the last of those within is the version
pub version_last : (trace : GuestTrace) (page count few : ℕ) → IsCountTo (places_of trace page) count few → 1 ≤ few
    → get_or (places_of trace page) (few - 1) 0 ≡ version_after trace page count
version_last trace page count few point some =
    let places : List ℕ = places_of trace page in
    let size : length (take few places) ≡ few = omega (arith, length-take few places, point.0) in
    sym (get_or-take few places (few - 1) 0 (omega (arith, some)))
    ∙ ap (λ (n : ℕ). get_or (take few places) (n - 1) 0) (sym size)
    ∙ greatest_last (take few places) 0 (omega (arith, size, some))
    (IsNonDecreasingBy-take (λ v. v) few places (places_of_rise trace page))
    ∙ ap (λ (l : List ℕ). fold max 0 l)
    (sym (filter_front (λ v. leb v count) places few point.0 point.1))

-- the next one is the first behind a version
pub next_found : (trace : GuestTrace) (page version few : ℕ) → IsCountTo (places_of trace page) version few
    → get_or (places_of trace page) few 0 ≡ next_after trace page version
next_found trace page version few point =
    let places : List ℕ = places_of trace page in
    let here : few ≡ few + 0 = omega arith in
    ap (λ (k : ℕ). get_or places k 0) here ∙ sym (get_or-drop few places 0 0)
    ∙ ap (λ (l : List ℕ). get_or l 0 0)
    (sym (filter_back (λ v. leb v version) (λ v. ltb version v) places few (λ v. after_is version v) point.0 point.1))

-- or there is none
pub next_none : (trace : GuestTrace) (page version few : ℕ) → IsCountTo (places_of trace page) version few
    → few ≡ length (places_of trace page) → 0 ≡ next_after trace page version
next_none trace page version few point all =
    let places : List ℕ = places_of trace page in
    sym (ap (λ (l : List ℕ). get_or l 0 0)
    (filter_back (λ v. leb v version) (λ v. ltb version v) places few (λ v. after_is version v) point.0 point.1
    ∙ drop_all few places (omega (arith, all))))

-- those between two versions turn the page at the earlier into the page at the later one
pub page_found : (trace : GuestTrace) (page earlier later few more : ℕ) → IsTrace trace → page < trace.pages
    → earlier ≤ later → earlier ≤ length trace.writes → IsCountTo (places_of trace page) earlier few
    → IsCountTo (drop few (places_of trace page)) later more
    → put_all trace (page_at trace page earlier) (take more (drop few (places_of trace page)))
    ≡ page_at trace page later
page_found trace page earlier later few more is low rise within first next =
    let places : List ℕ = places_of trace page in
    let between : take more (drop few places)
    ≡ filter (λ (v : ℕ). leb v later) (filter (λ (v : ℕ). ltb earlier v) places) =
    sym (filter_front (λ v. leb v later) (drop few places) more next.0 next.1)
    ∙ ap (filter (λ (v : ℕ). leb v later))
    (sym (filter_back (λ v. leb v earlier) (λ v. ltb earlier v) places few (λ v. after_is earlier v) first.0 first.1)) in
    ap (put_all trace (page_at trace page earlier)) (between
    ∙ ap (λ (l : List ℕ). filter (λ (v : ℕ). leb v later) (filter (λ (v : ℕ). ltb earlier v) l))
    (sym (same_places trace page)))
    ∙ later_page trace (index_with trace.pages (touches_of trace)) page earlier later is (refl, refl) low rise within
