-- Pages that writes hit at ticks that pass a test, and one more write.
use Rattle.std.proofs.Common.{◌≡◌, ℕ, Bool, true, false, ◌&&◌, ◌||◌, eqb, List, [], ◌∷◌, ◌++◌, ap, ◌∙◌, inl, inr}
use Rattle.std.specs.List.{All, list_any}
use Rattle.std.proofs.lemmas.Bool.{and_parts, and_from, and_left, and_right, or_cases, or_left, or_right, both_ways}
use Rattle.std.proofs.lemmas.Bool.{eq-eqb, ne_eqb, false_from_ne_true}
use Rattle.std.proofs.lemmas.List.Elements.{All-weaker}
use Rattle.std.proofs.lemmas.List.Folds.{list_any-append, list_any_none}
use Rattle.std.proofs.Math.Bool.{or-false}
use Rattle.migration_model.specs.Touches.{GuestTouch}

-- whether the page is written at a tick that passes
abbrev pub hits : (ℕ → Bool) → ℕ → List GuestTouch → Bool
hits test page writes = list_any (λ write. eqb write.page page && test write.tick) writes

hits-push : (test : ℕ → Bool) (page : ℕ) (writes : List GuestTouch) (write : GuestTouch)
    → hits test page (writes ++ write ∷ []) ≡ (hits test page writes || (eqb write.page page && test write.tick))
hits-push test page writes write =
    list_any-append (λ w. eqb w.page page && test w.tick) writes (write ∷ [])
    ∙ ap (λ b. hits test page writes || b) (or-false (eqb write.page page && test write.tick))

none_more : (test : ℕ → Bool) (page : ℕ) (writes : List GuestTouch) (write : GuestTouch)
    → (eqb write.page page && test write.tick) ≡ false
    → hits test page (writes ++ write ∷ []) ≡ hits test page writes
none_more test page writes write misses =
    hits-push test page writes write ∙ ap (λ b. hits test page writes || b) misses ∙ or-false (hits test page writes)

-- a write to another page
pub hits_push_other : (test : ℕ → Bool) (page : ℕ) (writes : List GuestTouch) (write : GuestTouch)
    → (write.page ≡ page → ⊥)
    → hits test page (writes ++ write ∷ []) ≡ hits test page writes
hits_push_other test page writes write other = none_more test page writes write
    (and_left _ _ (ne_eqb write.page page other))

-- a write at a tick that doesn't pass
pub hits_push_out : (test : ℕ → Bool) (page : ℕ) (writes : List GuestTouch) (write : GuestTouch)
    → test write.tick ≡ false
    → hits test page (writes ++ write ∷ []) ≡ hits test page writes
hits_push_out test page writes write fails = none_more test page writes write (and_right _ _ fails)

-- a write to the page at a tick that passes
pub hits_push_in : (test : ℕ → Bool) (page : ℕ) (writes : List GuestTouch) (write : GuestTouch) → write.page ≡ page
    → test write.tick ≡ true
    → hits test page (writes ++ write ∷ []) ≡ true
hits_push_in test page writes write same passes =
    hits-push test page writes write ∙ or_right _ _ (and_from _ _ (eq-eqb write.page page same) passes)

-- ticks for which a weaker test holds too
pub hits_weaker : (test weaker : ℕ → Bool) (page : ℕ) (writes : List GuestTouch)
    → ((tick : ℕ) → test tick ≡ true → weaker tick ≡ true)
    → hits test page writes ≡ true → hits weaker page writes ≡ true
hits_weaker test weaker page [] implies hit = hit
hits_weaker test weaker page (write ∷ writes) implies hit =
    let same = eqb write.page page in
    elim (or_cases (same && test write.tick) (hits test page writes) hit) [
      | inl here ↦
          let both = and_parts same (test write.tick) here in
          or_left (same && weaker write.tick) (hits weaker page writes)
          (and_from same (weaker write.tick) both.0 (implies write.tick both.1))
      | inr later ↦ or_right (same && weaker write.tick) (hits weaker page writes)
          (hits_weaker test weaker page writes implies later)
    ]

pub hits_none : (test weaker : ℕ → Bool) (page : ℕ) (writes : List GuestTouch)
    → ((tick : ℕ) → test tick ≡ true → weaker tick ≡ true)
    → hits weaker page writes ≡ false → hits test page writes ≡ false
hits_none test weaker page writes implies none =
    false_from_ne_true (hits test page writes) (λ hit. both_ways _ none
    (hits_weaker test weaker page writes implies hit))

-- no tick passes
pub hits_past : (test : ℕ → Bool) (page : ℕ) (writes : List GuestTouch) → All (λ write. test write.tick ≡ false) writes
    → hits test page writes ≡ false
hits_past test page writes fails =
    list_any_none (λ w. eqb w.page page && test w.tick) writes
    (All-weaker (λ w. test w.tick ≡ false) (λ w. (eqb w.page page && test w.tick) ≡ false)
    (λ w fail. and_right _ _ fail) writes fails)
