-- A quotient and its remainder, when a thousand is added to the dividend.
use Rattle.std.proofs.Common.{◌≡◌, ℕ, ◌+◌, ◌-◌, ◌*◌, ◌/◌, ◌%◌, ◌<◌, ◌≤◌, sym, ap, ◌∙◌, arith}
use Rattle.std.proofs.Math.Nat.{div-add-mod}
use Rattle.std.proofs.lemmas.Nat.{div-mul-add, mod-mul-add, mod_below}

-- these ticks and parts are the quotient and the remainder
parts_of : (n rate ticks part : ℕ) → part < rate → n ≡ ticks * rate + part → (ticks ≡ n / rate) × (part ≡ n % rate)
parts_of n rate ticks part low is = (
  sym (ap (λ m. m / rate) is ∙ div-mul-add ticks rate part low),
  sym (ap (λ m. m % rate) is ∙ mod-mul-add ticks rate part low),
)

sum_is : (n more rate : ℕ) → n + more ≡ (n / rate + more / rate) * rate + (n % rate + more % rate)
sum_is n more rate = omega (arith, div-add-mod n rate, div-add-mod more rate)

pub same_tick : (n more rate : ℕ) → n % rate + more % rate < rate
    → (n / rate + more / rate ≡ (n + more) / rate) × (n % rate + more % rate ≡ (n + more) % rate)
same_tick n more rate low = parts_of (n + more) rate (n / rate + more / rate) (n % rate + more % rate) low
    (sum_is n more rate)

pub next_tick : (n more rate : ℕ) → 1 ≤ rate → rate ≤ n % rate + more % rate
    → (n / rate + more / rate + 1 ≡ (n + more) / rate) × (n % rate + more % rate - rate ≡ (n + more) % rate)
next_tick n more rate some high =
    let low : n % rate + more % rate - rate < rate = omega (
      arith,
      high,
      mod_below n rate some,
      mod_below more rate some,
    ) in
    parts_of (n + more) rate (n / rate + more / rate + 1) (n % rate + more % rate - rate) low
    (omega (arith, sum_is n more rate, high))
