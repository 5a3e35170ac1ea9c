-- Copies of writes in the writes' place.
use Rattle.std.proofs.Common.{◌≡◌, ℕ, zero, suc, ◌+◌, ◌-◌, ◌<◌, ◌≤◌, eqb, List, [], ◌∷◌, ◌++◌, length, map, take}
use Rattle.std.proofs.Common.{drop, get_or, Bor, IfSome, Option, Some, refl, sym, ap, subst, ◌∙◌, arith}
use Rattle.std.specs.List.{All, between}
use Rattle.std.specs.List.Sorted.{IsNonDecreasing}
use Rattle.std.proofs.lemmas.List.{drop-map, drop_at, get_or-drop, get_or-map, get_or_default, length-drop, length-map}
use Rattle.std.proofs.lemmas.List.{map_more, map_push, take-append-le, take_all}
use Rattle.std.proofs.lemmas.List.Elements.{All-head, All-map, All-tail, All-weaker}
use Rattle.std.proofs.lemmas.List.Folds.{fold-map}
use Rattle.std.proofs.lemmas.List.Sums.{fold-append}
use Rattle.std.proofs.lemmas.Slice.{between_is}
use Rattle.migration_model.specs.Touches.{touches_of}
use Rattle.migration_model.specs.Trace.{GuestTrace, GuestWrite, IsTrace}
use Rattle.migration_model.proofs.Places.{from}
use Rattle.page_versions.specs.Index.{places_of}
use Rattle.page_versions.specs.Pages.{PutsWithin, overwrite, put_all, write_at}
use Rattle.page_versions.proofs.Pages.{writes_fit}
use Rattle.page_versions.proofs.Places.{bounds, places_of_is, places_rise, same_places}
use Rattle.page_versions.specs.declared.page_writes.Spot.{Spot}
use Rattle.page_versions.specs.Copies.{GuestPack, IsPackOf, IsWithin, bare, copy_of, put_copies, write_in}

-- one more write applied
pub put_more : (shift : ℕ) (bytes written : List ℕ) (spots : List Spot) (i : ℕ) (d : Spot) → i < length spots
    → put_copies shift bytes (map (write_in written) (take (i + 1) spots))
    ≡ overwrite shift (put_copies shift bytes (map (write_in written) (take i spots))) (write_in written
    (get_or spots i d))
put_more shift bytes written spots i d low =
    ap (put_copies shift bytes) (map_more (write_in written) spots i d low)
    ∙ fold-append (overwrite shift) bytes (map (write_in written) (take i spots)) (write_in written
    (get_or spots i d) ∷ [])

-- more bytes after those of a spot make no difference
written_kept : (bytes more : List ℕ) (spots : List Spot) → All (IsWithin bytes) spots
    → map (write_in (bytes ++ more)) spots ≡ map (write_in bytes) spots
written_kept bytes more [] within = refl
written_kept bytes more (s ∷ ss) within =
    let end = s.start + s.length in
    let here : between s.start end (bytes ++ more) ≡ between s.start end bytes =
    between_is (bytes ++ more) s.start end
    ∙ ap (drop s.start) (take-append-le end bytes more (All-head (IsWithin bytes) s ss within))
    ∙ sym (between_is bytes s.start end) in
    λ j. bare s.offset (here j) ∷ written_kept bytes more ss (All-tail (IsWithin bytes) s ss within) j

-- a write whose bytes were appended
pub written_pushed : (bytes more : List ℕ) (spots : List Spot) (spot : Spot) → All (IsWithin bytes) spots
    → spot.start ≡ length bytes → spot.length ≡ length more
    → map (write_in (bytes ++ more)) (spots ++ spot ∷ []) ≡ map (write_in bytes) spots ++ bare spot.offset more ∷ []
written_pushed bytes more spots spot within start len =
    let rest : drop spot.start (bytes ++ more) ≡ more =
    ap (λ (n : ℕ). drop n (bytes ++ more)) start ∙ drop_at bytes more (length bytes) refl in
    let own : between spot.start (spot.start + spot.length) (bytes ++ more) ≡ more =
    ap (take (spot.start + spot.length - spot.start)) rest
    ∙ take_all (spot.start + spot.length - spot.start) more (omega (arith, len)) in
    map_push (write_in (bytes ++ more)) spots spot
    ∙ (λ j. written_kept bytes more spots within j ++ bare spot.offset (own j) ∷ [])

-- what holds for what is made of each element holds for the elements
pub all_mapped : {X Y : Type 0} (f : X → Y) (P : Y → Type 0) (xs : List X) → All P (map f xs) → All (λ x. P (f x)) xs
all_mapped f P xs all k d low =
    subst P (get_or-map f xs k d (f d) low) (all k (f d) (omega (arith, low, length-map xs f)))

take_mapped : {X Y : Type 0} (f : X → Y) (n : ℕ) (xs : List X) → take n (map f xs) ≡ map f (take n xs)
take_mapped f zero xs = refl
take_mapped f (suc n) [] = refl
take_mapped f (suc n) (x ∷ xs) = ap (λ l. f x ∷ l) (take_mapped f n xs)

pub between_mapped : {X Y : Type 0} (f : X → Y) (i j : ℕ) (xs : List X)
    → between i j (map f xs) ≡ map f (between i j xs)
between_mapped f i j xs = ap (take (j - i)) (drop-map f i xs) ∙ take_mapped f (j - i) (drop i xs)

pub rises_drop : (n : ℕ) (xs : List ℕ) → IsNonDecreasing xs → IsNonDecreasing (drop n xs)
rises_drop n xs order i j d le low =
    let at_i = get_or-drop n xs i d in
    let at_j = get_or-drop n xs j d in
    omega (arith, at_i, at_j, order (n + i) (n + j) d (omega (arith, le)) (omega (arith, low, length-drop n xs)))

-- the places of a page's writes never fall
pub places_ascend : (trace : GuestTrace) (page : ℕ) → IsNonDecreasing (places_of trace page)
places_ascend trace page = subst IsNonDecreasing (same_places trace page) (places_rise (touches_of trace) page)

-- each is the place of a write
pub places_bound : (trace : GuestTrace) (page : ℕ)
    → All (λ place. (1 ≤ place) × (place ≤ length trace.writes)) (places_of trace page)
places_bound trace page =
    rw (places_of_is trace page)
    (All-weaker (λ (v : ℕ). (1 ≤ v) × (v < 1 + length trace.writes)) (λ (v : ℕ). (1 ≤ v) × (v ≤ length trace.writes))
    (λ v b. (b.0, omega (arith, b.1))) (from (λ (w : GuestWrite). eqb w.page page) 1 trace.writes)
    (bounds (λ (w : GuestWrite). eqb w.page page) 1 trace.writes))

-- the copies of writes turn a page into what the writes turn it into
pub copies_put : (trace : GuestTrace) (bytes places : List ℕ)
    → put_copies trace.shift bytes (map (copy_of trace) places) ≡ put_all trace bytes places
copies_put trace bytes places = fold-map (overwrite trace.shift) (copy_of trace) bytes places

-- the copies of a page are those of its own writes
pub packed_page : (pack : GuestPack) (trace : GuestTrace) (page : ℕ) (found : List GuestWrite) → IsPackOf pack trace
    → page < trace.pages → found ≡ get_or pack.pages page found → found ≡ map (copy_of trace) (places_of trace page)
packed_page pack trace page found is low at =
    at ∙ get_or_default pack.pages page found [] (omega (arith, low, is.len)) ∙ is.each page low

-- the copies in the packed writes that a source has
pub source_copies : (trace view : GuestTrace) {packed : Option (Bor GuestPack)} {own : Bor GuestPack} {pack : GuestPack}
    (page : ℕ) (found : List GuestWrite)
    → trace ≡ view → page < view.pages → packed ≡ Some own → IfSome packed (λ p. IsPackOf p.now trace)
    → pack ≡ own.now → found ≡ get_or pack.pages page found
    → found ≡ map (copy_of trace) (places_of trace page)
source_copies trace view {packed} {own} {pack} page found same low some are pack_is at =
    packed_page own.now trace page found
    (subst (λ (o : Option (Bor GuestPack)). IfSome o (λ p. IsPackOf p.now trace)) some are)
    (omega (arith, low, ap (λ (t : GuestTrace). t.pages) same))
    (at ∙ ap (λ (p : GuestPack). get_or p.pages page found) pack_is)

-- they stay within the page
pub copies_within : (trace : GuestTrace) (places : List ℕ) → IsTrace trace
    → All (λ place. (1 ≤ place) × (place ≤ length trace.writes)) places
    → All (PutsWithin trace.shift) (map (copy_of trace) places)
copies_within trace places is fit =
    All-map (PutsWithin trace.shift) (copy_of trace) places
    (all_mapped (write_at trace.writes) (PutsWithin trace.shift) places (writes_fit trace places is fit))
