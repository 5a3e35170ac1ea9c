-- Items over the front of a buffer.
use Rattle.std.proofs.Common.{◌≡◌, ℕ, ◌+◌, ◌<◌, ◌≤◌, List, [], ◌∷◌, ◌++◌, length, get_or, set, take, map, refl}
use Rattle.std.proofs.Common.{sym, ap, ◌∙◌, arith}
use Rattle.std.proofs.lemmas.List.{length-map, length-take-le, map_more}
use Rattle.std.proofs.Math.Seq.{take-length}
use Rattle.c_answers.specs.Buffers.{over}

-- one more item after those at the front
over_more : {X : Type 0} (items old : List X) (y : X) → length items < length old
    → set (over items old) (length items) y ≡ over (items ++ y ∷ []) old
over_more [] [] y low = absurd (omega (arith, low))
over_more [] (z ∷ old) y low = refl
over_more (x ∷ items) [] y low = absurd (omega (arith, low))
over_more {X} (x ∷ items) (z ∷ old) y low = ap (λ (l : List X). x ∷ l) (over_more items old y (omega (arith, low)))

-- the first `i` images of a list are at the front, and then one more
pub front_more_at : {X Y : Type 0} (f : X → Y) (xs : List X) (i : ℕ) (d : X) (y : Y) (old room : List Y)
    → i < length xs → length xs ≤ length old → y ≡ f (get_or xs i d) → room ≡ over (map f (take i xs)) old
    → set room i y ≡ over (map f (take (i + 1) xs)) old
front_more_at {X} {Y} f xs i d y old room low fits one before =
    let front : List Y = map f (take i xs) in
    let count : length front ≡ i = length-map (take i xs) f ∙ length-take-le i xs (omega (arith, low)) in
    ap (λ (r : List Y). set r i y) before
    ∙ ap (λ (n : ℕ). set (over front old) n y) (sym count)
    ∙ over_more front old y (omega (arith, count, low, fits))
    ∙ ap (λ (v : Y). over (front ++ v ∷ []) old) one
    ∙ ap (λ (l : List Y). over l old) (sym (map_more f xs i d low))

pub front_more : {X Y : Type 0} (f : X → Y) (xs : List X) (i : ℕ) (x : X) (y : Y) (old room : List Y)
    → i < length xs → length xs ≤ length old → x ≡ get_or xs i x → y ≡ f x → room ≡ over (map f (take i xs)) old
    → set room i y ≡ over (map f (take (i + 1) xs)) old
front_more f xs i x y old room low fits at is before = front_more_at f xs i x y old room low fits (is ∙ ap f at) before

-- all of them
pub front_all : {X Y : Type 0} (f : X → Y) (xs : List X) (i : ℕ) (old : List Y) → i ≡ length xs
    → over (map f (take i xs)) old ≡ over (map f xs) old
front_all {X} {Y} f xs i old all = ap (λ (l : List X). over (map f l) old)
    (ap (λ (n : ℕ). take n xs) all ∙ take-length xs)
