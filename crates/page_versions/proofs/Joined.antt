-- Copies of the writes of pages that follow one another.
use Rattle.std.proofs.Common.{◌≡◌, ◌<◌, ◌≤◌, ℕ, zero, suc, ◌+◌, ◌-◌, [], List, ◌∷◌, ◌++◌, get_or, length, map, ap}
use Rattle.std.proofs.Common.{arith}
use Rattle.std.proofs.Common.{◌∙◌, sym}
use Rattle.std.specs.List.{range_with_len}
use Rattle.std.proofs.lemmas.List.{map-append}
use Rattle.std.proofs.lemmas.List.FromFn.{get_or-map-range_with_len, length-map-range_with_len, map-range_with_len_more}
use Rattle.migration_model.specs.Trace.{GuestTrace, GuestWrite}
use Rattle.page_versions.specs.Index.{places_of}
use Rattle.page_versions.specs.Copies.{copies_of, copy_of}

-- the copies of one page's writes
abbrev copies_at : GuestTrace → ℕ → List GuestWrite
copies_at trace page = map (copy_of trace) (places_of trace page)

-- a range and the one behind it
range_joined : (a n m : ℕ) → range_with_len a n ++ range_with_len (a + n) m ≡ range_with_len a (n + m)
range_joined a zero m =
    let none : a + 0 ≡ a = omega arith in
    let all : m ≡ 0 + m = omega arith in
    ap (λ b. range_with_len b m) none ∙ ap (range_with_len a) all
range_joined a (suc n) m =
    let on : a + suc n ≡ (a + 1) + n = omega arith in
    let all : suc (n + m) ≡ suc n + m = omega arith in
    ap (λ b. a ∷ (range_with_len (a + 1) n ++ range_with_len b m)) on ∙ ap (λ l. a ∷ l) (range_joined (a + 1) n m)
    ∙ ap (range_with_len a) all

-- the copies up to a page, and those from it on
pub copies_joined : (trace : GuestTrace) (from middle to : ℕ) → from ≤ middle → middle ≤ to
    → copies_of trace from (middle - from) ++ copies_of trace middle (to - middle) ≡ copies_of trace from (to - from)
copies_joined trace from middle to low high =
    let n = middle - from in
    let on : middle ≡ from + n = omega (arith, low) in
    let all : n + (to - middle) ≡ to - from = omega (arith, low, high) in
    ap (λ at. copies_of trace from n ++ copies_of trace at (to - middle)) on
    ∙ sym (map-append (copies_at trace) (range_with_len from n) (range_with_len (from + n) (to - middle)))
    ∙ ap (map (copies_at trace)) (range_joined from n (to - middle)) ∙ ap (copies_of trace from) all

-- the copies of one page more
pub copies_more : (trace : GuestTrace) (from page : ℕ) → from ≤ page
    → copies_of trace from (page + 1 - from) ≡ copies_of trace from (page - from) ++ copies_at trace page ∷ []
copies_more trace from page low =
    let more : page + 1 - from ≡ (page - from) + 1 = omega (arith, low) in
    ap (copies_of trace from) more ∙ map-range_with_len_more (copies_at trace) from (page - from) page
    (omega (arith, low))

pub copies_len : (trace : GuestTrace) (from count : ℕ) → length (copies_of trace from count) ≡ count
copies_len trace from count = length-map-range_with_len (copies_at trace) from count

-- where a page's copies stand in those of the first pages
pub copies_in_place : (trace : GuestTrace) (count page : ℕ) → page < count
    → get_or (copies_of trace 0 count) page [] ≡ copies_at trace page
copies_in_place trace count page low =
    get_or-map-range_with_len (copies_at trace) 0 count page page [] low (omega arith)
