-- A page at a later version, made from one at an earlier version.
use Rattle.std.proofs.Common.{◌≡◌, ℕ, suc, ◌+◌, ◌-◌, ◌<◌, ◌≤◌, Bool, true, false, cond, leb, ltb, eqb, List, [], ◌∷◌}
use Rattle.std.proofs.Common.{◌++◌, length, take, drop, fold, refl, sym, ap, ap₂, subst, ◌∙◌, arith}
use Rattle.std.specs.List.{filter}
use Rattle.std.proofs.lemmas.List.{length-take-le}
use Rattle.std.proofs.lemmas.List.Sums.{fold-append}
use Rattle.std.proofs.Math.Seq.{take-add}
use Rattle.migration_model.specs.Trace.{GuestTrace, GuestWrite, IsTrace}
use Rattle.migration_model.specs.Versions.{page_at}
use Rattle.migration_model.proofs.Places.{from}
use Rattle.page_versions.specs.Index.{GuestIndex, IsIndexOf, places_in}
use Rattle.page_versions.specs.Pages.{bytes_by, overwrite, write_at}
use Rattle.page_versions.proofs.Places.{places_of_index, places_of_is, places_past, places_upto}
use Rattle.page_versions.proofs.Pages.{page_at_is}

cond-append : (b : Bool) (x : ℕ) (xs ys : List ℕ) → cond b (x ∷ xs ++ ys) (xs ++ ys) ≡ cond b (x ∷ xs) xs ++ ys
cond-append true x xs ys = refl
cond-append false x xs ys = refl

from-append : {X : Type 0} (q : X → Bool) (s : ℕ) (xs ys : List X)
    → from q s (xs ++ ys) ≡ from q s xs ++ from q (s + length xs) ys
from-append q s [] ys = let here : s ≡ s + 0 = omega arith in ap (λ (k : ℕ). from q k ys) here
from-append q s (x ∷ xs) ys =
    let next : s + 1 + length xs ≡ s + suc (length xs) = omega arith in
    ap (λ (l : List ℕ). cond (q x) (s ∷ l) l)
    (from-append q (s + 1) xs ys ∙ ap (λ (k : ℕ). from q (s + 1) xs ++ from q k ys) next)
    ∙ cond-append (q x) s (from q (s + 1) xs) (from q (s + suc (length xs)) ys)

-- the places up to a later version: those up to an earlier one, and then those in between
places_between : {X : Type 0} (q : X → Bool) (xs : List X) (earlier later : ℕ) → earlier ≤ later → earlier ≤ length xs
    → filter (λ (v : ℕ). leb v later) (from q 1 xs)
    ≡ filter (λ (v : ℕ). leb v earlier) (from q 1 xs) ++ filter (λ (v : ℕ). leb v later)
    (filter (λ (v : ℕ). ltb earlier v) (from q 1 xs))
places_between q xs earlier later rise low =
    let more = later - earlier in
    let whole : later ≡ earlier + more = omega arith in
    let front = take earlier xs in
    let back = take more (drop earlier xs) in
    places_upto q 1 xs later later (omega arith)
    ∙ ap (λ (n : ℕ). from q 1 (take n xs)) whole
    ∙ ap (from q 1) (take-add earlier more xs)
    ∙ from-append q 1 front back
    ∙ ap₂ (λ (a b : List ℕ). a ++ b) (sym (places_upto q 1 xs earlier earlier (omega arith)))
    (ap (λ (n : ℕ). from q (1 + n) back) (length-take-le earlier xs low)
    ∙ sym
    (ap (filter (λ (v : ℕ). leb v later)) (places_past q 1 xs earlier earlier (omega arith))
    ∙ places_upto q (1 + earlier) (drop earlier xs) later more (omega arith)))

-- the page's writes between two versions turn the earlier into the later
pub later_page : (trace : GuestTrace) (index : GuestIndex) (page earlier later : ℕ) → IsTrace trace
    → IsIndexOf index trace → page < index.pages
    → earlier ≤ later → earlier ≤ length trace.writes
    → fold (λ bytes place. overwrite trace.shift bytes (write_at trace.writes place)) (page_at trace page earlier)
    (filter (λ (v : ℕ). leb v later) (filter (λ (v : ℕ). ltb earlier v) (places_in index.touches page)))
    ≡ page_at trace page later
later_page trace index page earlier later is of low rise within =
    let step : List ℕ → ℕ → List ℕ = λ bytes place. overwrite trace.shift bytes (write_at trace.writes place) in
    let places = places_in index.touches page in
    let between = filter (λ (v : ℕ). leb v later) (filter (λ (v : ℕ). ltb earlier v) places) in
    let split : filter (λ (v : ℕ). leb v later) places ≡ filter (λ (v : ℕ). leb v earlier) places ++ between =
    subst
    (λ (l : List ℕ). filter (λ (v : ℕ). leb v later) l
    ≡ filter (λ (v : ℕ). leb v earlier) l ++ filter (λ (v : ℕ). leb v later) (filter (λ (v : ℕ). ltb earlier v) l))
    (sym (places_of_index index trace page of ∙ places_of_is trace page))
    (places_between (λ (w : GuestWrite). eqb w.page page) trace.writes earlier later rise within) in
    ap (λ (b : List ℕ). fold step b between) (sym (page_at_is trace index page earlier is of low))
    ∙ sym (fold-append step _ (filter (λ (v : ℕ). leb v earlier) places) between)
    ∙ ap (bytes_by trace) (sym split)
    ∙ page_at_is trace index page later is of low
