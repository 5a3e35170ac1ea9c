-- What an error says of the tests that gave it.
use Rattle.std.proofs.Common.{◌≡◌, ℕ, ◌≤◌, ◌<◌, Bool, true, false, cond, not, Option, Some, None, refl, sym, ◌∙◌}
use Rattle.std.specs.Prelude.{◌≢◌}
use Rattle.std.proofs.lemmas.Bool.{and_parts, leb-true, ltb-true, not-false}
use Rattle.predictions.specs.Units.Limits.{limits_refusal, link_rate}
use Rattle.predictions.specs.Units.Scales.{TraceScale, scale_refusal}
use Rattle.predictions.specs.declared.units.error.UnitsError.{UnitsError}
use Rattle.predictions.specs.declared.units.error.UnitsError.TheVariants as errors
use Rattle.predictions.specs.declared.units.limits.Limits.{Limits}
use Rattle.rate_limit.specs.Refusals.{is_between}
use Rattle.view_commands.specs.Nearest.{IsWithin}

between : (low high n : ℕ) → is_between low high n ≡ true → IsWithin low high n
between low high n is = let two = and_parts _ _ is in (leb-true _ _ two.0, leb-true _ _ two.1)

same : (a b : UnitsError) → Some a ≡ Some b → b ≡ a
same a b is = cc is

-- of three tests, with the last error left
third : (b1 b2 b3 : Bool) (a b c e : UnitsError) → cond b1 (Some a) (cond b2 (Some b) (cond b3 (Some c) None)) ≡ Some e
    → e ≢ a → e ≢ b → e ≡ c
third true b2 b3 a b c e is na nb = absurd (na (same a e is))
third false true b3 a b c e is na nb = absurd (nb (same b e is))
third false false true a b c e is na nb = same c e is
third false false false a b c e is na nb = absurd (cc is)

pub sampled_left : (scale : TraceScale) (e : UnitsError) → scale_refusal scale ≡ Some e → e ≢ errors.Tick
    → e ≢ errors.Page → e ≡ errors.Sampled
sampled_left scale e is nt np = third _ _ _ errors.Tick errors.Page errors.Sampled e is nt np

-- of four tests, with the last error left
fourth : (b1 b2 b3 b4 : Bool) (a b c d e : UnitsError)
    → cond b1 (Some a) (cond b2 (Some b) (cond b3 (Some c) (cond b4 (Some d) None))) ≡ Some e
    → e ≢ a → e ≢ b → e ≢ c → e ≡ d
fourth true b2 b3 b4 a b c d e is na nb nc = absurd (na (same a e is))
fourth false b2 b3 b4 a b c d e is na nb nc = third b2 b3 b4 b c d e is nb nc

pub downtime_left : (scale : TraceScale) (limits : Limits) (e : UnitsError) → limits_refusal scale limits ≡ Some e
    → e ≢ errors.Link → e ≢ errors.First → e ≢ errors.Reserve → e ≡ errors.Downtime
downtime_left scale limits e is nl nf nr =
    fourth _ _ _ _ errors.Link errors.First errors.Reserve errors.Downtime e is nl nf nr

-- the first test let it pass
first_passed : (b : Bool) (a e : UnitsError) (others : Option UnitsError) → cond b (Some a) others ≡ Some e → e ≢ a
    → b ≡ false
first_passed true a e others is na = absurd (na (same a e is))
first_passed false a e others is na = refl

pub link_taken : (scale : TraceScale) (limits : Limits) (e : UnitsError) → limits_refusal scale limits ≡ Some e
    → e ≢ errors.Link → IsWithin 1 1_000_000 (link_rate scale limits)
link_taken scale limits e is nl =
    between 1 1_000_000 (link_rate scale limits) (not-false _ (first_passed _ errors.Link e _ is nl))

-- the third test did not
third_met : (b1 b2 b3 b4 : Bool) → cond b1 (Some errors.Link) (cond b2 (Some errors.First) (cond b3
    (Some errors.Reserve) (cond b4 (Some errors.Downtime) None))) ≡ Some errors.Reserve → b3 ≡ true
third_met true b2 b3 b4 is = absurd (cc is)
third_met false true b3 b4 is = absurd (cc is)
third_met false false true b4 is = refl
third_met false false false true is = absurd (cc is)
third_met false false false false is = absurd (cc is)

pub reserve_longer : (scale : TraceScale) (limits : Limits) → limits_refusal scale limits ≡ Some errors.Reserve
    → limits.downtime < limits.reserve
reserve_longer scale limits is = ltb-true _ _ (third_met _ _ _ _ is)
