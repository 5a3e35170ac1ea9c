-- The marked pages of a guest.
use Rattle.std.proofs.Common.{ℕ, zero, suc, ◌+◌, ◌<◌, Bool, arith}
use Rattle.std.specs.List.{All, range_with_len}
use Rattle.std.proofs.lemmas.List.Elements.{All-cons, All-filter, All-nil, All-weaker}
use Rattle.stop_copy.specs.Copies.{marked_pages}

range_low : (a n : ℕ) → All (λ (p : ℕ). p < a + n) (range_with_len a n)
range_low a zero = All-nil (λ (p : ℕ). p < a + zero)
range_low a (suc n) =
    All-cons (λ (p : ℕ). p < a + suc n) a (range_with_len (a + 1) n) (omega arith)
    (All-weaker (λ (p : ℕ). p < a + 1 + n) (λ (p : ℕ). p < a + suc n) (λ p low. omega (arith, low))
    (range_with_len (a + 1) n) (range_low (a + 1) n))

pub marked_low : (marked : ℕ → Bool) (n : ℕ) → All (λ (p : ℕ). p < n) (marked_pages marked n)
marked_low marked n =
    All-filter marked (λ (p : ℕ). p < n) (range_with_len 0 n)
    (All-weaker (λ (p : ℕ). p < 0 + n) (λ (p : ℕ). p < n) (λ p low. omega (arith, low)) (range_with_len 0 n)
    (range_low 0 n))
