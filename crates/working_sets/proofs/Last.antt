-- The last window that a page is in, and what it says of an open window.
use Rattle.std.proofs.Common.{◌≡◌, ℕ, ◌+◌, ◌-◌, ◌*◌, ◌<◌, ◌≤◌, Bool, true, false, ◌&&◌, ltb, leb, List, [], ◌∷◌, ◌++◌}
use Rattle.std.proofs.Common.{refl, sym, ap, ◌∙◌, ◌⊎◌, inl, inr, arith}
use Rattle.std.specs.List.{All}
use Rattle.std.proofs.Math.Nat.{mul-le-mul_right}
use Rattle.std.proofs.lemmas.Bool.{and_parts, and_from, and_left, and_right, leb-true, ltb-true, le-leb, lt-leb, lt-ltb}
use Rattle.std.proofs.lemmas.Bool.{le-ltb}
use Rattle.std.proofs.lemmas.List.Elements.{All-weaker}
use Rattle.migration_model.specs.Touches.{GuestTouch}
use Rattle.working_sets.proofs.Written.{hits, hits_push_other, hits_push_out, hits_push_in, hits_weaker, hits_none}
use Rattle.working_sets.proofs.Written.{hits_past}

-- the ticks of window j, of the previous window, and of all earlier windows
abbrev pub in_window : ℕ → ℕ → ℕ → Bool
in_window w j tick = leb (j * w) tick && ltb tick ((j + 1) * w)

abbrev pub in_window_before : ℕ → ℕ → ℕ → Bool
in_window_before w j tick = leb ((j - 1) * w) tick && ltb tick (j * w)

abbrev pub in_earlier_window : ℕ → ℕ → ℕ → Bool
in_earlier_window w j tick = leb 0 tick && ltb tick (j * w)

pub in_window_is : (w j tick : ℕ) → in_window w j tick ≡ true → (j * w ≤ tick) × (tick < (j + 1) * w)
in_window_is w j tick is = let both = and_parts (leb (j * w) tick) (ltb tick ((j + 1) * w))
    is in (leb-true _ _ both.0, ltb-true _ _ both.1)

pub in_window_from : (w j tick : ℕ) → j * w ≤ tick → tick < (j + 1) * w → in_window w j tick ≡ true
in_window_from w j tick low high = and_from _ _ (le-leb _ _ low) (lt-ltb _ _ high)

pub above_window : (w j tick : ℕ) → (j + 1) * w ≤ tick → in_window w j tick ≡ false
above_window w j tick high = and_right _ _ (le-ltb tick ((j + 1) * w) high)

pub below_window : (w j tick : ℕ) → tick < j * w → in_window w j tick ≡ false
below_window w j tick low = and_left _ _ (lt-leb (j * w) tick low)

pub above_window_before : (w j tick : ℕ) → j * w ≤ tick → in_window_before w j tick ≡ false
above_window_before w j tick high = and_right _ _ (le-ltb tick (j * w) high)

pub above_earlier_window : (w j tick : ℕ) → j * w ≤ tick → in_earlier_window w j tick ≡ false
above_earlier_window w j tick high = and_right _ _ (le-ltb tick (j * w) high)

-- `last` is 1 more than the last window that the page is in, or 0 if it is in none
pub record IsLast (w : ℕ) (writes : List GuestTouch) (page last : ℕ) : Type 0 where
  pub none_after : hits (λ tick. leb (last * w) tick) page writes ≡ false
  pub some : (last ≡ 0) ⊎ (hits (in_window w (last - 1)) page writes ≡ true)

-- at the start
pub IsLast_none : (w page : ℕ) → IsLast w [] page 0
IsLast_none w page = record { none_after = refl; some = inl refl }

-- in the open window already
pub hits_already : (w j page last : ℕ) (writes : List GuestTouch) → IsLast w writes page last → last ≡ j + 1
    → hits (in_window w j) page writes ≡ true
hits_already w j page last writes is same = elim is.some [
  | inl none ↦ absurd (omega arith)
  | inr some ↦ let here : last - 1 ≡ j = omega arith in ap (λ i. hits (in_window w i) page writes) (sym here) ∙ some
]

-- at no tick from last * w on
after_last : (test : ℕ → Bool) (w page last : ℕ) (writes : List GuestTouch) → IsLast w writes page last
    → ((tick : ℕ) → test tick ≡ true → last * w ≤ tick) → hits test page writes ≡ false
after_last test w page last writes is late =
    hits_none test (λ tick. leb (last * w) tick) page writes (λ tick passes. le-leb _ _ (late tick passes))
    is.none_after

-- not yet in the open window
pub hits_not_yet : (w j page last : ℕ) (writes : List GuestTouch) → IsLast w writes page last → last ≤ j
    → hits (in_window w j) page writes ≡ false
hits_not_yet w j page last writes is low =
    let mono : last * w ≤ j * w = mul-le-mul_right w low in
    after_last (in_window w j) w page last writes is (λ tick passes. let both =
    in_window_is w j tick passes in omega arith)

-- in the previous window
pub hits_before : (w j page last : ℕ) (writes : List GuestTouch) → IsLast w writes page last → last ≡ j → (last ≡ 0 → ⊥)
    → hits (in_window_before w j) page writes ≡ true
hits_before w j page last writes is same nonzero = elim is.some [
  | inl none ↦ absurd (nonzero none)
  | inr some ↦
      let here : last - 1 ≡ j - 1 = omega arith in
      let next : (last - 1) + 1 ≡ j = omega (arith, nonzero) in
      hits_weaker (in_window w (last - 1)) (in_window_before w j) page writes
      (λ tick passes.
      let both = in_window_is w (last - 1) tick passes in
      let low : (j - 1) * w ≤ tick = rw here at both.0 in
      let high : tick < j * w = rw next at both.1 in
      and_from _ _ (le-leb _ _ low) (lt-ltb _ _ high))
      some
]

-- not in the previous window
pub hits_not_before : (w j page last : ℕ) (writes : List GuestTouch) → IsLast w writes page last → last ≤ j - 1
    → hits (in_window_before w j) page writes ≡ false
hits_not_before w j page last writes is low =
    let mono : last * w ≤ (j - 1) * w = mul-le-mul_right w low in
    after_last (in_window_before w j) w page last writes is
    (λ tick passes. let both = and_parts (leb ((j - 1) * w) tick) (ltb tick (j * w)) passes in let at_least =
    leb-true _ _ both.0 in omega arith)

-- in an earlier window
pub hits_earlier : (w j page last : ℕ) (writes : List GuestTouch) → IsLast w writes page last → last ≤ j
    → (last ≡ 0 → ⊥) → hits (in_earlier_window w j) page writes ≡ true
hits_earlier w j page last writes is low nonzero = elim is.some [
  | inl none ↦ absurd (nonzero none)
  | inr some ↦
      let next : (last - 1) + 1 ≡ last = omega (arith, nonzero) in
      let mono : last * w ≤ j * w = mul-le-mul_right w low in
      hits_weaker (in_window w (last - 1)) (in_earlier_window w j) page writes
      (λ tick passes.
      let both = in_window_is w (last - 1) tick passes in
      let high : tick < last * w = rw next at both.1 in
      and_from (leb 0 tick) (ltb tick (j * w)) (le-leb 0 tick (omega arith)) (lt-ltb tick (j * w) (omega arith)))
      some
]

-- in no earlier window
pub hits_not_earlier : (w j page last : ℕ) (writes : List GuestTouch) → IsLast w writes page last → last ≡ 0
    → hits (in_earlier_window w j) page writes ≡ false
hits_not_earlier w j page last writes is none =
    let zero_times : last * w ≡ 0 = ap (λ n. n * w) none ∙ omega arith in
    after_last (in_earlier_window w j) w page last writes is (λ tick passes. omega arith)

-- one more write, in window j, to the page
pub IsLast-push : (w j page last : ℕ) (writes : List GuestTouch) (write : GuestTouch)
    → All (λ x. x.tick < (j + 1) * w) writes
    → in_window w j write.tick ≡ true → write.page ≡ page → IsLast w (writes ++ write ∷ []) page (j + 1)
IsLast-push w j page last writes write below inside same =
    let both = in_window_is w j write.tick inside in
    let out : leb ((j + 1) * w) write.tick ≡ false = lt-leb _ _ both.1 in
    let here : (j + 1) - 1 ≡ j = omega arith in
    record {
      none_after =
          hits_push_out (λ tick. leb ((j + 1) * w) tick) page writes write out
          ∙ hits_past (λ tick. leb ((j + 1) * w) tick) page writes
          (All-weaker (λ x. x.tick < (j + 1) * w) (λ x. leb ((j + 1) * w) x.tick ≡ false) (λ x low. lt-leb _ _ low)
          writes below);
      some = inr (ap (λ i. hits (in_window w i) page (writes ++ write ∷ [])) here
          ∙ hits_push_in (in_window w j) page writes write same inside);
    }

-- one more write to another page
pub IsLast_other : (w page last : ℕ) (writes : List GuestTouch) (write : GuestTouch) → IsLast w writes page last
    → (write.page ≡ page → ⊥) → IsLast w (writes ++ write ∷ []) page last
IsLast_other w page last writes write is other =
    record {
      none_after = hits_push_other (λ tick. leb (last * w) tick) page writes write other ∙ is.none_after;
      some = elim is.some [
        | inl none ↦ inl none
        | inr some ↦ inr (hits_push_other (in_window w (last - 1)) page writes write other ∙ some)
      ];
    }
