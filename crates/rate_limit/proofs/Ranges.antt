-- Settings that are not refused are in range.
use Rattle.std.proofs.Common.{◌≡◌, ℕ, ◌≤◌, Bool, true, false, cond, leb, not, ◌&&◌, ◌^◌, Option, Some, None, IfSome}
use Rattle.std.proofs.Common.{refl, sym, ap, ◌∙◌}
use Rattle.std.proofs.lemmas.Bool.{leb-true, leb-false, ltb-false, le-leb, le-ltb, lt-leb, not-false, and_parts}
use Rattle.std.proofs.lemmas.Option.{none-some}
use Rattle.migration_model.specs.Rates.{MigrationSettings, AreSettings}
use Rattle.rate_limit.specs.Refusals.{is_between, is_late, is_parallelism, refusal_of}
use Rattle.rate_limit.specs.declared.error.SettingsError.{SettingsError}

-- a test that let something pass
passed : (b : Bool) (e : SettingsError) (others : Option SettingsError) → cond b (Some e) others ≡ None
    → (b ≡ false) × (others ≡ None)
passed true e others is = absurd cc
passed false e others is = (refl, is)

between : (low high n : ℕ) → is_between low high n ≡ true → (low ≤ n) × (n ≤ high)
between low high n is = let two = and_parts _ _ is in (leb-true _ _ two.0, leb-true _ _ two.1)

in_time : (base : Option ℕ) (start : ℕ) → is_late base start ≡ false → IfSome base (λ tick. tick ≤ start)
in_time None start is = tt
in_time (Some base) start is = ltb-false _ _ is

pub in_range_lem : (s : MigrationSettings) → refusal_of s ≡ None → AreSettings s
in_range_lem s none =
    let p1 = passed _ _ _ none in
    let p2 = passed _ _ _ p1.1 in
    let p3 = passed _ _ _ p2.1 in
    let p4 = passed _ _ _ p3.1 in
    let p5 = passed _ _ _ p4.1 in
    let p6 = passed _ _ _ p5.1 in
    let p7 = passed _ _ _ p6.1 in
    let p8 = passed _ _ _ p7.1 in
    let p9 = passed _ _ _ p8.1 in
    let p10 = passed _ _ _ p9.1 in
    let min = between _ _ _ (not-false _ p1.0) in
    let max = between _ _ _ (not-false _ p2.0) in
    let threshold = between _ _ _ (not-false _ p4.0) in
    let rounds = between _ _ _ (not-false _ p5.0) in
    let window = between _ _ _ (not-false _ p6.0) in
    let hot = between _ _ _ (not-false _ p7.0) in
    let all = and_parts _ _ (not-false _ p9.0) in
    let three = and_parts _ _ all.0 in
    let two = and_parts _ _ three.0 in
    let workers = between _ _ _ two.0 in
    let streams = between _ _ _ two.1 in
    let replayers = between _ _ _ three.1 in
    let lane = between _ _ _ all.1 in
    record {
      min_low = min.0;
      min_high = min.1;
      max_low = max.0;
      max_high = max.1;
      increment_high = ltb-false _ _ p3.0;
      threshold_low = threshold.0;
      threshold_high = threshold.1;
      rounds_low = rounds.0;
      rounds_high = rounds.1;
      window_low = window.0;
      window_high = window.1;
      hot_low = hot.0;
      hot_high = hot.1;
      start_high = leb-false _ _ p8.0;
      workers_low = workers.0;
      workers_high = workers.1;
      streams_low = streams.0;
      streams_high = streams.1;
      replayers_low = replayers.0;
      replayers_high = replayers.1;
      lane_low = lane.0;
      lane_high = lane.1;
      base_high = in_time s.base s.start p10.0;
    }

-- ---- settings in range are not refused

step : (b : Bool) (e : SettingsError) (others : Option SettingsError) → b ≡ false → others ≡ None
    → cond b (Some e) others ≡ None
step true e others is rest = absurd cc
step false e others is rest = rest

within : (low high n : ℕ) → low ≤ n → n ≤ high → is_between low high n ≡ true
within low high n above below = ap (λ (b : Bool). b && leb n high) (le-leb low n above) ∙ le-leb n high below

not_out : (b : Bool) → b ≡ true → not b ≡ false
not_out true is = refl
not_out false is = absurd cc

all_of : (a b : Bool) → a ≡ true → b ≡ true → (a && b) ≡ true
all_of true b is other = other
all_of false b is other = absurd cc

not_late : (base : Option ℕ) (start : ℕ) → IfSome base (λ tick. tick ≤ start) → is_late base start ≡ false
not_late None start is = refl
not_late (Some base) start is = le-ltb start base is

pub accepted_lem : (s : MigrationSettings) → AreSettings s → refusal_of s ≡ None
accepted_lem s are =
    let parallel : is_parallelism s ≡ true = all_of _ _ (all_of _ _
    (all_of _ _ (within 1 16 s.workers are.workers_low are.workers_high)
    (within 1 16 s.streams are.streams_low are.streams_high))
    (within 1 16 s.replayers are.replayers_low are.replayers_high))
    (within 1 65_536 s.lane are.lane_low are.lane_high) in
    step _ _ _ (not_out _ (within 1 1_000_000 s.min are.min_low are.min_high))
    (step _ _ _ (not_out _ (within s.min 1_000_000 s.max are.max_low are.max_high))
    (step _ _ _ (le-ltb 1_000_000 s.increment are.increment_high)
    (step _ _ _ (not_out _ (within 1 65_536 s.threshold are.threshold_low are.threshold_high))
    (step _ _ _ (not_out _ (within 1 64 s.rounds are.rounds_low are.rounds_high))
    (step _ _ _ (not_out _ (within 1 (2 ^ 40) s.window are.window_low are.window_high))
    (step _ _ _ (not_out _ (within 1 1_048_576 s.hot are.hot_low are.hot_high))
    (step _ _ _ (lt-leb (2 ^ 40) s.start are.start_high)
    (step _ _ _ (not_out _ parallel)
    (step _ _ _ (not_late s.base s.start are.base_high) refl)))))))))

pub refused_lem : (s : MigrationSettings) (e : SettingsError) → refusal_of s ≡ Some e → AreSettings s → ⊥
refused_lem s e is are = none-some e (sym (accepted_lem s are) ∙ is)
