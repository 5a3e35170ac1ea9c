-- Settings that are not refused are in range.
use Rattle.std.proofs.Common.{◌≡◌, ℕ, ◌≤◌, Bool, true, false, cond, leb, not, ◌&&◌, ◌^◌, Option, Some, None, IfSome}
use Rattle.std.proofs.Common.{refl, sym, ap, ◌∙◌, arith}
use Rattle.std.proofs.lemmas.Bool.{leb-true, ltb-false, le-leb, le-ltb, not-false, and_parts, eqb-false, ne_eqb}
use Rattle.std.proofs.lemmas.Option.{none-some}
use Rattle.migration_model.specs.Looks.{HypervisorSettings, AreHypervisorSettings}
use Rattle.look_planner.specs.Refusals.{is_late, is_no_most, is_within, refusal_of}
use Rattle.look_planner.specs.declared.error.LookSettingsError.{LookSettingsError}

-- a test that let something pass
passed : (b : Bool) (e : LookSettingsError) (others : Option LookSettingsError) → cond b (Some e) others ≡ None
    → (b ≡ false) × (others ≡ None)
passed true e others is = absurd cc
passed false e others is = (refl, is)

between : (high n : ℕ) → is_within high n ≡ true → (1 ≤ n) × (n ≤ high)
between high n is = let two = and_parts _ _ is in (leb-true _ _ two.0, leb-true _ _ two.1)

in_time : (base : Option ℕ) (start : ℕ) → is_late base start ≡ false → IfSome base (λ tick. tick ≤ start)
in_time None start is = tt
in_time (Some base) start is = ltb-false _ _ is

some_most : (looks : Option ℕ) → is_no_most looks ≡ false → IfSome looks (λ most. 1 ≤ most)
some_most None is = tt
some_most (Some most) is = let other = eqb-false _ _ is in omega (arith, other)

pub in_range_lem : (s : HypervisorSettings) → refusal_of s ≡ None → AreHypervisorSettings s
in_range_lem s none =
    let p1 = passed _ _ _ none in
    let p2 = passed _ _ _ p1.1 in
    let p3 = passed _ _ _ p2.1 in
    let p4 = passed _ _ _ p3.1 in
    let p5 = passed _ _ _ p4.1 in
    let p6 = passed _ _ _ p5.1 in
    let p7 = passed _ _ _ p6.1 in
    let rate = between _ _ (not-false _ p1.0) in
    let threshold = between _ _ (not-false _ p3.0) in
    record {
      rate_low = rate.0;
      rate_high = rate.1;
      window_high = ltb-false _ _ p2.0;
      threshold_low = threshold.0;
      threshold_high = threshold.1;
      looks_low = some_most s.looks p4.0;
      end_high = ltb-false _ _ p5.0;
      start_high = ltb-false _ _ p6.0;
      base_high = in_time s.base s.start p7.0;
    }

-- ---- settings in range are not refused

step : (b : Bool) (e : LookSettingsError) (others : Option LookSettingsError) → b ≡ false → others ≡ None
    → cond b (Some e) others ≡ None
step true e others is rest = absurd cc
step false e others is rest = rest

within : (high n : ℕ) → 1 ≤ n → n ≤ high → is_within high n ≡ true
within high n above below = ap (λ (b : Bool). b && leb n high) (le-leb 1 n above) ∙ le-leb n high below

not_out : (b : Bool) → b ≡ true → not b ≡ false
not_out true is = refl
not_out false is = absurd cc

not_late : (base : Option ℕ) (start : ℕ) → IfSome base (λ tick. tick ≤ start) → is_late base start ≡ false
not_late None start is = refl
not_late (Some base) start is = le-ltb start base is

not_none : (looks : Option ℕ) → IfSome looks (λ most. 1 ≤ most) → is_no_most looks ≡ false
not_none None is = refl
not_none (Some most) is = ne_eqb most 0 (λ e. omega (arith, e, is))

pub accepted_lem : (s : HypervisorSettings) → AreHypervisorSettings s → refusal_of s ≡ None
accepted_lem s are =
    step _ _ _ (not_out _ (within 1_000_000 s.rate are.rate_low are.rate_high))
    (step _ _ _ (le-ltb (2 ^ 40) s.window are.window_high)
    (step _ _ _ (not_out _ (within 65_536 s.threshold are.threshold_low are.threshold_high))
    (step _ _ _ (not_none s.looks are.looks_low)
    (step _ _ _ (le-ltb (2 ^ 40) s.end are.end_high)
    (step _ _ _ (le-ltb s.end s.start are.start_high)
    (step _ _ _ (not_late s.base s.start are.base_high) refl))))))

pub refused_lem : (s : HypervisorSettings) (e : LookSettingsError) → refusal_of s ≡ Some e → AreHypervisorSettings s → ⊥
refused_lem s e is are = none-some e (sym (accepted_lem s are) ∙ is)
