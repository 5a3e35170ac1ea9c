-- When a hypervisor asks how many pages are left, and when it looks.
use Rattle.std.proofs.Common.{◌≡◌, ℕ, ◌+◌, ◌-◌, ◌*◌, ◌/◌, ◌<◌, ◌≤◌, min, max, refl, ◌∙◌, inl, inr, arith}
use Rattle.std.specs.Int.{div_ceil}
use Rattle.std.proofs.Math.Nat.{mul-le-mul_right, le-max_left, le-max_right}
use Rattle.std.proofs.lemmas.Bool.{cases_lt}
use Rattle.std.proofs.lemmas.Grind.{div_ceil_times}
use Rattle.migration_model.specs.Looks.{HypervisorSettings, IsAsked, IsLook, left_after, sent_in}
use Rattle.migration_model.specs.Rates.{duration_of}
use Rattle.look_planner.specs.Pacing.{IsWindowEnd}

-- no multiple that is late enough comes earlier
not_earlier : (window tick whole most others : ℕ) → whole * window < tick + window → most ≡ max whole 1
    → 1 ≤ others * window → tick ≤ others * window → others < most → ⊥
not_earlier window tick whole most others above is some late less = elim (cases_lt 0 others) [
  | inl more ↦
      let below : others + 1 ≤ whole = omega (arith, less, more, is) in
      omega (arith, mul-le-mul_right window below, above, late)
  | inr none ↦ omega (arith, mul-le-mul_right window none, some)
]

pub window_end_is : (window tick whole most : ℕ) → 1 ≤ window → whole ≡ div_ceil tick window → most ≡ max whole 1
    → IsWindowEnd window tick (most * window)
window_end_is window tick whole most some is most_is =
    let bounds = div_ceil_times tick window some in
    let low : tick ≤ whole * window = rw is bounds.0 in
    let high : whole * window < tick + window = rw is bounds.1 in
    let up : whole * window ≤ most * window = mul-le-mul_right window (rw most_is (le-max_left whole 1)) in
    let one : 1 * window ≤ most * window = mul-le-mul_right window (rw most_is (le-max_right whole 1)) in
    record {
      some = omega (arith, one, some);
      late = omega (arith, low, up);
      windows = most;
      whole = refl;
      first = λ others at_least late. elim (cases_lt others most) [
        | inl less ↦ absurd (not_earlier window tick whole most others high most_is at_least late less)
        | inr more ↦ mul-le-mul_right window more
      ];
    }

-- few pages are left from this tick on
few_later : (pages rate threshold most few ticks : ℕ) → most + 1 ≡ threshold → 1_000 * (pages - most) ≤ few * rate
    → few ≤ ticks → pages - sent_in rate pages ticks < threshold
few_later pages rate threshold most few ticks is enough later =
    let more : few * rate ≤ ticks * rate = mul-le-mul_right rate later in
    omega (arith, more, enough, is)

-- and not before
few_late : (pages rate threshold most few ticks : ℕ) → most + 1 ≡ threshold
    → ((t : ℕ) → 1_000 * (pages - most) ≤ t * rate → few ≤ t) → pages - sent_in rate pages ticks < threshold
    → few ≤ ticks
few_late pages rate threshold most few ticks is least are =
    let sent : pages - most ≤ rate * ticks / 1_000 = omega (arith, are, is) in
    least ticks (omega (arith, sent))

asked_then : (s : HypervisorSettings) (pages all end windows ticks : ℕ) → all ≡ duration_of pages s.rate → 1 ≤ end
    → end ≡ windows * s.window → ticks ≡ min all end → IsAsked s pages ticks
asked_then s pages all end windows ticks all_is some whole is = elim (cases_lt end all) [
  | inl less ↦
      let here : ticks ≡ end = omega (arith, is, less) in
      inr (windows, omega (arith, here, some), here ∙ whole)
  | inr more ↦ inl (omega (arith, is, more) ∙ all_is)
]

not_asked : (s : HypervisorSettings) (pages all few end ticks earlier : ℕ) → all ≡ duration_of pages s.rate
    → IsWindowEnd s.window few end → ticks ≡ min all end → IsAsked s pages earlier → few ≤ earlier → earlier < ticks → ⊥
not_asked s pages all few end ticks earlier all_is first is asked late less = elim asked [
  | inl whole ↦ omega (arith, whole, all_is, is, less)
  | inr at ↦
      let some : 1 ≤ at.0 * s.window = omega (arith, at.1, at.2) in
      let high : end ≤ at.0 * s.window = first.first at.0 some (omega (arith, at.2, late)) in
      omega (arith, high, at.2, is, less)
]

pub look_is : (s : HypervisorSettings) (pages all most few end ticks : ℕ) → most + 1 ≡ s.threshold
    → all ≡ duration_of pages s.rate → 1_000 * pages ≤ all * s.rate → 1_000 * (pages - most) ≤ few * s.rate
    → ((t : ℕ) → 1_000 * (pages - most) ≤ t * s.rate → few ≤ t) → IsWindowEnd s.window few end → ticks ≡ min all end
    → IsLook s pages ticks
look_is s pages all most few end ticks most_is all_is all_enough enough least window is =
    let early : few ≤ all = least all (omega (arith, all_enough)) in
    record {
      asked = asked_then s pages all end window.windows ticks all_is window.some window.whole is;
      few = few_later pages s.rate s.threshold most few ticks most_is enough (omega (arith, early, window.late, is));
      first = λ earlier asked less. elim (cases_lt (left_after s pages earlier) s.threshold) [
        | inl are ↦ absurd (not_asked s pages all few end ticks earlier all_is window is asked (few_late pages s.rate
            s.threshold most few earlier most_is least are) less)
        | inr more ↦ more
      ];
    }
