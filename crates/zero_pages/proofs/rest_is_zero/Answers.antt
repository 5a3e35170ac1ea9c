use Rattle.std.proofs.Common.{◌≡◌, ℕ, length, get_or, refl, ◌∙◌, below_more, arith}
use Rattle.std.specs.Prelude.{bit_or}
use Rattle.std.proofs.lemmas.Bool.{eq-eqb, eqb-true}
use Rattle.std.proofs.lemmas.List.{get_or_default}
use Rattle.std.proofs.lemmas.Nat.{le_or_l, le_or_r}
use Rattle.zero_pages.proofs.rest_is_zero.Goals as goal

both_zero : (a b : ℕ) → a ≡ 0 → b ≡ 0 → bit_or a b ≡ 0
both_zero a b is_a is_b = rw (is_a, is_b) refl

pub loop-byte-preserved : goal.loop-byte-preserved
loop-byte-preserved c =
    let a = c.loop-byte.seen in
    let i = c.loop-byte.byte-index in
    let b : ℕ = get_or c.args.rest.now i 0 in (
      λ none.
          below_more (λ (k : ℕ). get_or c.args.rest.now k 0 ≡ 0) i
          (c.loop-byte.invariant.0 (omega (arith, le_or_l a b))) (omega (arith, le_or_r a b)),
      λ each.
          both_zero a b
          (c.loop-byte.invariant.1 (λ k low. each k (omega arith)))
          (each i (omega arith)),
    )

pub returns : goal.returns
returns c =
    let all : c.loop-byte.byte-index ≡ length c.args.rest.now = omega arith in (
      λ none k d low. get_or_default c.args.rest.now k d 0 low
          ∙ c.loop-byte.invariant.0 (eqb-true c.loop-byte.seen 0 none) k (omega arith),
      λ each. eq-eqb c.loop-byte.seen 0 (c.loop-byte.invariant.1 (λ k low. each k 0 (omega arith))),
    )
