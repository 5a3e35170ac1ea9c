-- Draws one page after another, and shares.
use Rattle.std.proofs.Common.{◌≡◌, ℕ, ◌+◌, ◌-◌, ◌*◌, ◌<◌, ◌≤◌, Bool, true, false, cond, ltb, List}
use Rattle.std.proofs.Common.{[], ◌∷◌, ◌++◌, length, map, refl, sym, ap, subst, ◌∙◌, add-one, arith}
use Rattle.std.specs.List.{All, AllByRecursion, AllZip, filter, range_with_len}
use Rattle.std.proofs.lemmas.Bool.{ltb-true}
use Rattle.std.proofs.lemmas.List.Elements.{All-from_recursion}
use Rattle.std.proofs.lemmas.List.FromFn.{filter_of_map_range_with_len_more, length-map-range_with_len}
use Rattle.std.proofs.lemmas.List.FromFn.{map-range_with_len_more}
use Rattle.std.proofs.lemmas.List.{length-map}
use Rattle.std.proofs.lemmas.Slice.Zip.{AllZip-long}
use Rattle.migration_model.specs.Rates.{MigrationSettings}
use Rattle.migration_model.specs.Touches.{GuestTouch}
use Rattle.std.proofs.Math.Nat.{le_of_mul-le-mul_right, mul-sub}
use Rattle.std.proofs.lemmas.Nat.{mul-le}
use Rattle.predictions.specs.Redrawn.Errors.{AreRedrawn, IsErrorOf, IsRedrawn, spread_of, weight_of}
use Rattle.predictions.specs.Redrawn.Sums.{IsSpread}
use Rattle.predictions.specs.Units.Scales.{TraceScale}
use Rattle.predictions.specs.declared.course.Course.{Course}
use Rattle.predictions.specs.declared.course.Manner.{Manner}
use Rattle.predictions.specs.declared.redrawn.spread.Spread.{Spread}
use Rattle.predictions.specs.Redrawn.Draws.{draws_of, drawn_after, next_state, page_at, state_after}

pub state_next : (n m : ℕ) → m ≡ n + 1 → state_after m ≡ next_state (state_after n)
unfolding state_after
state_next n m is = ap state_after (is ∙ add-one n)

pub state_start : (n : ℕ) → n ≡ 0 → 0 ≡ state_after n
unfolding state_after
state_start n is = sym (ap state_after is)

-- the pages drawn in some steps
abbrev pub drawn_in : ℕ → ℕ → ℕ → ℕ → List ℕ
drawn_in sampled pages steps n = filter (λ page. ltb page pages)
    (map (λ step. page_at sampled (state_after step)) (range_with_len (steps + 1) n))

-- one more step
pub drawn_more : (sampled pages steps n page : ℕ) → page ≡ page_at sampled (state_after (steps + 1 + n))
    → drawn_in sampled pages steps (n + 1)
    ≡ drawn_in sampled pages steps n ++ filter (λ page. ltb page pages) (page ∷ [])
drawn_more sampled pages steps n page is =
    filter_of_map_range_with_len_more (λ page. ltb page pages) (λ step. page_at sampled (state_after step)) (steps + 1)
    n (steps + 1 + n) refl
    ∙ ap (λ (p : ℕ). drawn_in sampled pages steps n ++ cond (ltb p pages) (p ∷ []) []) (sym is)

-- the pages that are drawn are of the trace
low_kept : (b : Bool) (n x : ℕ) (xs : List ℕ) → b ≡ ltb x n → AllByRecursion (λ p. p < n) xs
    → AllByRecursion (λ p. p < n) (cond b (x ∷ xs) xs)
low_kept true n x xs is all = (ltb-true x n (sym is), all)
low_kept false n x xs is all = all

all_low : (n : ℕ) (xs : List ℕ) → AllByRecursion (λ p. p < n) (filter (λ p. ltb p n) xs)
all_low n [] = tt
all_low n (x ∷ xs) = low_kept (ltb x n) n x (filter (λ p. ltb p n) xs) refl (all_low n xs)

pub drawn_low : (sampled pages steps : ℕ) → All (λ page. page < pages) (drawn_after sampled pages steps)
drawn_low sampled pages steps = All-from_recursion (λ page. page < pages) (drawn_after sampled pages steps)
    (all_low pages (map (λ step. page_at sampled (state_after step)) (range_with_len (steps + 1) sampled)))

-- ---- one more plan

pub zip_push : {X Y : Type 0} (R : X → Y → Type 0) (xs : List X) (ys : List Y) (x : X) (y : Y) → AllZip R xs ys
    → R x y → AllZip R (xs ++ x ∷ []) (ys ++ y ∷ [])
zip_push R [] [] x y all one = (one, tt)
zip_push R [] (b ∷ ys) x y all one = absurd all
zip_push R (a ∷ xs) [] x y all one = absurd all
zip_push R (a ∷ xs) (b ∷ ys) x y all one = (all.0, zip_push R xs ys x y all.1 one)

pub redrawn_more : (manner : Manner) (sampled pages n : ℕ) (touches : List GuestTouch) (scale : TraceScale)
    (s : MigrationSettings) (courses : List Course) (course : Course)
    → AreRedrawn manner touches scale s (draws_of sampled pages n) courses
    → IsRedrawn manner touches scale s (drawn_after sampled pages (n * sampled)) course
    → AreRedrawn manner touches scale s (draws_of sampled pages (n + 1)) (courses ++ course ∷ [])
redrawn_more manner sampled pages n touches scale s courses course before one =
    let f : ℕ → List ℕ = λ draw. drawn_after sampled pages (draw * sampled) in
    let R : List ℕ → Course → Type 0 = IsRedrawn manner touches scale s in
    let more : map f (range_with_len 0 (n + 1)) ≡ map f (range_with_len 0 n) ++ f n ∷ [] =
    map-range_with_len_more f 0 n n (omega arith) in
    subst (λ (draws : List (List ℕ)). AllZip R draws (courses ++ course ∷ [])) (sym more)
    (zip_push R (map f (range_with_len 0 n)) courses (f n) course before one)

-- there are as many courses as draws
pub courses_count : (manner : Manner) (sampled pages n : ℕ) (touches : List GuestTouch) (scale : TraceScale)
    (s : MigrationSettings) (courses : List Course) (f : Course → ℕ)
    → AreRedrawn manner touches scale s (draws_of sampled pages n) courses → length (map f courses) ≡ n
courses_count manner sampled pages n touches scale s courses f are =
    length-map courses f
    ∙ AllZip-long (IsRedrawn manner touches scale s) (draws_of sampled pages n) courses are
    ∙ length-map-range_with_len (λ draw. drawn_after sampled pages (draw * sampled)) 0 n

-- ---- shares

pub share_enough : (n part whole q r more : ℕ) → q * whole + r ≡ n → r * part ≤ more * whole
    → n * part ≤ (q * part + more) * whole
share_enough n part whole q r more is enough =
    let all : n * part ≡ (q * whole + r) * part = ap (λ m. m * part) (sym is) in
    omega (arith, all, enough)

pub share_least : (n part whole q r more k : ℕ) → 1 ≤ whole → q * whole + r ≡ n
    → ((m : ℕ) → r * part ≤ m * whole → more ≤ m) → n * part ≤ k * whole → q * part + more ≤ k
share_least n part whole q r more k some is least high =
    let all : n * part ≡ (q * whole + r) * part = ap (λ m. m * part) (sym is) in
    let low : (q * part) * whole ≤ k * whole = omega (arith, all, high) in
    let fits : q * part ≤ k = le_of_mul-le-mul_right low (omega arith) in
    let apart : whole * (k - q * part) ≡ whole * k - whole * (q * part) = mul-sub whole k (q * part) in
    let rest = least (k - q * part) (omega (arith, all, high, apart)) in
    omega (arith, fits, rest)

-- ---- errors

spread_is : (numbers : List ℕ) (spread : Spread) → length numbers ≡ 20 → IsSpread numbers spread
    → 20 * spread.squares - spread.sum * spread.sum ≡ spread_of numbers
spread_is numbers spread count is =
    λ i. (sym count i) * is.squares_are i - is.sum_is i * is.sum_is i

-- an error, by the numbers that it is made of
record IsErrorWith (apart upper lower weight error : ℕ) : Type 0 where
  pub enough : apart * upper ≤ error * error * (weight * lower)
  pub least : (k : ℕ) → apart * upper ≤ k * k * (weight * lower) → error ≤ k

-- the error of numbers in microseconds
pub time_is : (numbers : List ℕ) (times : Spread) (apart left guest n error : ℕ) → length numbers ≡ 20
    → IsSpread numbers times → apart ≡ 20 * times.squares - times.sum * times.sum
    → apart * left ≤ n * guest → ((k : ℕ) → apart * left ≤ k * guest → n ≤ k)
    → n ≤ error * error * 380 → ((k : ℕ) → n ≤ k * k * 380 → error ≤ k)
    → IsErrorOf numbers left guest error
time_is numbers times apart left guest n error count is apart_is enough least root_enough root_least =
    let same : apart ≡ spread_of numbers = apart_is ∙ spread_is numbers times count is in
    let weight : 380 ≡ weight_of numbers = λ i. (sym count i) * (sym count i - 1) in
    let scaled : n * guest ≤ error * error * 380 * guest =
    mul-le n guest (error * error * 380) guest root_enough (omega arith) in
    let up : apart * left ≤ error * error * (380 * guest) = omega (arith, enough, scaled) in
    let down : (k : ℕ) → apart * left ≤ k * k * (380 * guest) → error ≤ k = λ k high.
    root_least k (least (k * k * 380) (omega (arith, high))) in
    let P : ℕ → ℕ → Type 0 = λ a w. IsErrorWith a left guest w error in
    let both : P apart 380 = record { enough = up; least = down } in
    let moved : P (spread_of numbers) (weight_of numbers) =
    subst (λ w. P (spread_of numbers) w) weight (subst (λ a. P a 380) same both) in
    record { enough = moved.enough; least = moved.least }
