-- Answers that turn.
use Rattle.std.proofs.Common.{◌≡◌, ◌↔◌, ◌+◌, ◌/◌, ◌^◌, ℕ, Bool, true, false, refl, inl, inr, arith, subst, sym}
use Rattle.std.proofs.lemmas.Bool.{false≢true}
use Rattle.std.specs.Bool.{beq}
use Rattle.std.specs.Prelude.{IsTrue, not, if◌then◌else◌, Some, None}
use Rattle.predictions.specs.Remedies.{IsFound, TurnsNear, TurnsNowhere, amount_on, far_way}
use Rattle.predictions.specs.declared.remedies.way.Way.TheVariants as ways

-- a test that does not differ from an answer has it
pub same_answer : (a b : Bool) (P : Type 0) → not (beq a b) ≡ false → IsTrue a ↔ P → IsTrue b ↔ P
same_answer true true P is h = h
same_answer false false P is h = h
same_answer true false P is h = let e : true ≡ false = is in absurd (false≢true (sym e))
same_answer false true P is h = let e : true ≡ false = is in absurd (false≢true (sym e))

pub both_answers : (b : Bool) (P : Type 0) → IsTrue b ↔ P → IsTrue (not b) ↔ P → ⊥
both_answers true P x y = false≢true (y.1 (x.0 refl))
both_answers false P x y = false≢true (x.1 (y.0 refl))

-- the last sixteenth is the end
pub turns_between : (Keeps : ℕ → Type 0) (b : Bool) (from to : ℕ) → TurnsNowhere Keeps b (ways.Between from to)
    → IsTrue (not b) ↔ Keeps to → ⊥
turns_between Keeps b from to nowhere turned =
    let ends : amount_on (ways.Between from to) (15 + 1) ≡ to = omega arith in
    both_answers b (Keeps to) (subst (λ (n : ℕ). IsTrue b ↔ Keeps n) ends (nowhere 15 (omega arith))) turned

pub found_unturned : (Keeps : ℕ → Type 0) (start : ℕ) (b : Bool) → TurnsNowhere Keeps b (far_way start b)
    → IsFound Keeps start b (if b then Some (start / 2 ^ 6) else None)
found_unturned Keeps start true nowhere = inr (nowhere, refl)
found_unturned Keeps start false nowhere = nowhere

pub found_turned : (Keeps : ℕ → Type 0) (start : ℕ) (b : Bool) (before at : ℕ)
    → TurnsNear Keeps b (far_way start b) before at → IsFound Keeps start b (Some (if b then before else at))
found_turned Keeps start true before at turns = inl (at, turns)
found_turned Keeps start false before at turns = (before, turns)
