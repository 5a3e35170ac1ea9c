use Rattle.std.proofs.Common.{◌≡◌, ℕ, List, length, ◌<◌, get_or, sym, ◌∙◌, ap, subst, arith, inl, inr}
use Rattle.std.specs.Borrow.{Bor}
use Rattle.std.proofs.lemmas.List.{get_or_default}
use Rattle.std.proofs.lemmas.Bool.{cases_eq}
use Rattle.view_commands.specs.Quantities.{IsCounted}
use Rattle.view_commands.proofs.QuantityLemmas.{quantity_here, quantity_in}
use Rattle.view_commands.proofs.quantities.quantity_of.Goals as goal

here : (word : List ℕ) (units : List (Bor (List ℕ) × ℕ)) (i k : ℕ) (u : Bor (List ℕ) × ℕ) (n : ℕ)
    (d e : Bor (List ℕ) × ℕ) → i < length units → k ≡ i → get_or units k u ≡ u → IsCounted word u.0.now u.1 n
    → ((m : ℕ) → ¬ IsCounted word (get_or units i d).0.now (get_or units i e).1 m) → ⊥
here word units i k u n d e low same is counted never =
    let at : (x : Bor (List ℕ) × ℕ) → u ≡ get_or units i x = λ x. sym is ∙ ap (λ (j : ℕ). get_or units j u) same
    ∙ get_or_default units i u x low in
    never n (subst (λ (y : Bor (List ℕ) × ℕ). IsCounted word y.0.now (get_or units i e).1 n) (at d)
    (subst (λ (y : Bor (List ℕ) × ℕ). IsCounted word u.0.now y.1 n) (at e) counted))

pub loop-name-preserved : goal.loop-name-preserved
loop-name-preserved c = λ k low u is n counted.
    elim (cases_eq k c.loop-name.name-index) [
      | inl same ↦ here c.args.word.now c.args.units.now c.loop-name.name-index k u n _ _ c.loop-name-test.true same is
          counted c.in_default.ensures.none
      | inr other ↦ c.loop-name.invariant k (omega (arith, other)) u is n counted
    ]

pub returns-in-Some-clause-some : goal.returns-in-Some-clause-some
returns-in-Some-clause-some c = quantity_here c.args.units.now c.args.word.now c.in-Some.n c.loop-name.name-index _ _
    c.loop-name-test.true c.in-Some.ensures.some

pub returns-clause-none : goal.returns-clause-none
returns-clause-none c = λ n is.
    let some = quantity_in c.args.units.now c.args.word.now n is in
    c.loop-name.invariant some.0 (omega (arith, some.2)) some.1 some.3 n some.4
