-- The version of a page is the greatest of the places of its writes.
use Rattle.std.proofs.Common.{◌≡◌, ℕ, zero, suc, ◌+◌, ◌-◌, ◌≤◌, ◌⊎◌, inl, inr, Bool, true, false, cond, eqb, ltb, ◌&&◌}
use Rattle.std.proofs.Common.{List, [], ◌∷◌, map, max, refl, ap, ◌∙◌, arith}
use Rattle.std.specs.Prelude.{Some, slice_get}
use Rattle.std.specs.List.{filter, fold, enumerate_from}
use Rattle.std.proofs.lemmas.Bool.{and_parts, and_from, eqb-true, ltb-true, eq-eqb, lt-ltb, cases_Bool, cases_lt}
use Rattle.std.proofs.lemmas.Option.{none-some, same_Some}
use Rattle.migration_model.specs.Trace.{GuestTrace, GuestWrite}
use Rattle.migration_model.specs.Versions.{version_before}
use Rattle.migration_model.specs.Live.{IsPlaceOf}

-- the greatest place of those that pass the test, if the first has place s, or `least` if that is greater
abbrev greatest : (GuestWrite → Bool) → ℕ → ℕ → List GuestWrite → ℕ
greatest q least s ws = fold max least (map (λ (at : ℕ × GuestWrite). at.0)
    (filter (λ (at : ℕ × GuestWrite). q at.1) (enumerate_from s ws)))

fold_cond : (b : Bool) (least : ℕ) (at : ℕ × GuestWrite) (l : List (ℕ × GuestWrite))
    → fold max least (map (λ (a : ℕ × GuestWrite). a.0) (cond b (at ∷ l) l))
    ≡ cond b (fold max (max least at.0) (map (λ (a : ℕ × GuestWrite). a.0) l))
    (fold max least (map (λ (a : ℕ × GuestWrite). a.0) l))
fold_cond true least at l = refl
fold_cond false least at l = refl

one_more : (q : GuestWrite → Bool) (least s : ℕ) (w : GuestWrite) (ws : List GuestWrite)
    → greatest q least s (w ∷ ws) ≡ cond (q w) (greatest q (max least s) (s + 1) ws) (greatest q least (s + 1) ws)
one_more q least s w ws = fold_cond (q w) least (s, w) (filter (λ (at : ℕ × GuestWrite). q at.1)
    (enumerate_from (s + 1) ws))

taken : (q : GuestWrite → Bool) (least s : ℕ) (w : GuestWrite) (ws : List GuestWrite) → q w ≡ true
    → greatest q least s (w ∷ ws) ≡ greatest q (max least s) (s + 1) ws
taken q least s w ws is = one_more q least s w ws ∙ ap (λ (b : Bool). cond b (greatest q (max least s) (s + 1) ws)
    (greatest q least (s + 1) ws)) is

passed : (q : GuestWrite → Bool) (least s : ℕ) (w : GuestWrite) (ws : List GuestWrite) → q w ≡ false
    → greatest q least s (w ∷ ws) ≡ greatest q least (s + 1) ws
passed q least s w ws is = one_more q least s w ws ∙ ap (λ (b : Bool). cond b (greatest q (max least s) (s + 1) ws)
    (greatest q least (s + 1) ws)) is

no_less : (q : GuestWrite → Bool) (least s : ℕ) (ws : List GuestWrite) → least ≤ greatest q least s ws
no_less q least s [] = omega arith
no_less q least s (w ∷ ws) = elim (cases_Bool (q w)) [
  | inl is ↦ omega (arith, taken q least s w ws is, no_less q (max least s) (s + 1) ws)
  | inr not ↦ omega (arith, passed q least s w ws not, no_less q least (s + 1) ws)
]

above : (q : GuestWrite → Bool) (least s : ℕ) (ws : List GuestWrite) (i : ℕ) (w : GuestWrite) → slice_get ws i ≡ Some w
    → q w ≡ true
    → s + i ≤ greatest q least s ws
above q least s [] i w there is = absurd (none-some w there)
above q least s (x ∷ ws) zero w there is =
    let here : q x ≡ true = ap q (same_Some x w there) ∙ is in
    omega (arith, taken q least s x ws here, no_less q (max least s) (s + 1) ws)
above q least s (x ∷ ws) (suc i) w there is = elim (cases_Bool (q x)) [
  | inl hit ↦ omega (arith, taken q least s x ws hit, above q (max least s) (s + 1) ws i w there is)
  | inr not ↦ omega (arith, passed q least s x ws not, above q least (s + 1) ws i w there is)
]

-- a write that passes the test, and its place
record Found (q : GuestWrite → Bool) (s : ℕ) (ws : List GuestWrite) (place : ℕ) : Type 0 where
  index : ℕ
  write : GuestWrite
  there : slice_get ws index ≡ Some write
  passes : q write ≡ true
  place_is : place ≡ s + index

further : (q : GuestWrite → Bool) (s : ℕ) (x : GuestWrite) (ws : List GuestWrite) (place other : ℕ) → other ≡ place
    → Found q (s + 1) ws place → Found q s (x ∷ ws) other
further q s x ws place other same found = record {
  index = suc found.index;
  write = found.write;
  there = found.there;
  passes = found.passes;
  place_is = omega (arith, same, found.place_is);
}

reached : (q : GuestWrite → Bool) (least s : ℕ) (ws : List GuestWrite)
    → (greatest q least s ws ≡ least) ⊎ Found q s ws (greatest q least s ws)
reached q least s [] = inl refl
reached q least s (w ∷ ws) = elim (cases_Bool (q w)) [
  | inl is ↦ elim (reached q (max least s) (s + 1) ws) [
    | inl same ↦ elim (cases_lt least s) [
      | inl lower ↦ inr (record {
        index = 0;
        write = w;
        there = refl;
        passes = is;
        place_is =
            omega (arith, taken q least s w ws is, same, lower);
      })
      | inr higher ↦ inl (omega (arith, taken q least s w ws is, same, higher))
    ]
    | inr found ↦ inr (further q s w ws (greatest q (max least s) (s + 1) ws) (greatest q least s (w ∷ ws))
        (taken q least s w ws is) found)
  ]
  | inr not ↦ elim (reached q least (s + 1) ws) [
    | inl same ↦ inl (passed q least s w ws not ∙ same)
    | inr found ↦ inr (further q s w ws (greatest q least (s + 1) ws) (greatest q least s (w ∷ ws))
        (passed q least s w ws not) found)
  ]
]

abbrev hits : ℕ → ℕ → GuestWrite → Bool
hits page tick w = eqb w.page page && ltb w.tick tick

pub version_is_greatest : (trace : GuestTrace) (page from tick place : ℕ) → IsPlaceOf trace page from tick place
    → place ≤ version_before trace page tick
version_is_greatest trace page from tick place is =
    let passes : hits page tick is.write ≡ true = and_from _ _ (eq-eqb _ _ is.page_is) (lt-ltb _ _ is.high) in
    omega (arith, above (hits page tick) 0 1 trace.writes (place - 1) is.write is.there passes, is.some)

pub version_is_place : (trace : GuestTrace) (page tick : ℕ) → (version_before trace page tick ≡ 0)
    ⊎ IsPlaceOf trace page 0 tick (version_before trace page tick)
version_is_place trace page tick = elim (reached (hits page tick) 0 1 trace.writes) [
  | inl none ↦ inl none
  | inr found ↦
      let version : ℕ = version_before trace page tick in
      let parts = and_parts (eqb found.write.page page) (ltb found.write.tick tick) found.passes in
      let index : version - 1 ≡ found.index = omega (arith, found.place_is) in
      inr (record {
        write = found.write;
        some = omega (arith, found.place_is);
        there = ap (slice_get trace.writes) index ∙ found.there;
        page_is = eqb-true _ _ parts.0;
        low = omega arith;
        high = ltb-true _ _ parts.1;
      })
]

pub version_rises : (trace : GuestTrace) (page from to : ℕ) → from ≤ to
    → version_before trace page from ≤ version_before trace page to
version_rises trace page from to le = elim (version_is_place trace page from) [
  | inl none ↦ omega (arith, none)
  | inr is ↦ version_is_greatest trace page 0 to (version_before trace page from)
      (record {
        write = is.write;
        some = is.some;
        there = is.there;
        page_is = is.page_is;
        low = is.low;
        high =
            omega (arith, is.high, le);
      })
]
