-- The shares of a link that have one verdict.
use Rattle.std.proofs.Common.{◌≡◌, ◌∙◌, ◌+◌, ◌-◌, ◌<◌, ◌≤◌, ◌⊎◌, ℕ, List, Option, Some, None, refl, sym, ap, subst}
use Rattle.std.proofs.Common.{inl, inr, arith, ⊎_elim}
use Rattle.std.proofs.lemmas.Bool.{cases_lt, cases_order}
use Rattle.migration_model.specs.Touches.{GuestTouch, last_tick_of}
use Rattle.predictions.specs.Remedies.Trials.{MigrationTrial}
use Rattle.predictions.specs.Courses.{course_verdict}
use Rattle.predictions.specs.Shares.{IsLinkShare, IsVerdict, TurnsBelow, VerdictAt, over_share}
use Rattle.predictions.specs.declared.course.Course.{Course}
use Rattle.predictions.specs.declared.shares.share.LinkShare.{LinkShare}
use Rattle.predictions.specs.declared.verdict.Verdict.{Verdict}
use Rattle.predictions.proofs.Decided.{one_trial_course}

-- a trial has one verdict
pub one_verdict : (pages : ℕ) (touches : List GuestTouch) (t : MigrationTrial) (a b : Verdict)
    → IsVerdict pages touches t a → IsVerdict pages touches t b → a ≡ b
one_verdict pages touches t a b (inl x) (inl y) =
    x.verdict_is
    ∙ ap (λ (course : Course). course_verdict course (last_tick_of touches))
    (one_trial_course pages touches t x.course y.course x.is_course y.is_course)
    ∙ sym y.verdict_is
one_verdict pages touches t a b (inl x) (inr y) = absurd (y.0 x.makes)
one_verdict pages touches t a b (inr x) (inl y) = absurd (x.0 y.makes)
one_verdict pages touches t a b (inr x) (inr y) = x.1 ∙ sym y.1

-- the shares from `100 - steps` per cent on have a verdict
abbrev pub HaveVerdict : (ℕ → Verdict → Type 0) → Verdict → ℕ → Type 0
HaveVerdict At verdict steps = (percent : ℕ) → 100 - steps ≤ percent → percent ≤ 100 → At percent verdict

pub all_first : (At : ℕ → Verdict → Type 0) (verdict : Verdict) → At 100 verdict → HaveVerdict At verdict 0
all_first At verdict here percent low high =
    let is : 100 ≡ percent = omega (arith, low, high) in
    subst (λ (n : ℕ). At n verdict) is here

pub one_more : (At : ℕ → Verdict → Type 0) (verdict : Verdict) (steps : ℕ) → steps < 50
    → HaveVerdict At verdict steps → At (99 - steps) verdict → HaveVerdict At verdict (steps + 1)
one_more At verdict steps few all here percent low high =
    ⊎_elim (λ (less : percent < 100 - steps).
    let is : 99 - steps ≡ percent = omega (arith, low, less, few) in
    subst (λ (n : ℕ). At n verdict) is here) (λ (more : 100 - steps ≤ percent). all percent more high)
    (cases_lt percent (100 - steps))

-- a test with one verdict at each share
abbrev pub HasOne : (ℕ → Verdict → Type 0) → Type 0
HasOne At = (n : ℕ) (a b : Verdict) → At n a → At n b → a ≡ b

-- shares with the same verdict do not go on below the turn
not_below : (At : ℕ → Verdict → Type 0) (verdict : Verdict) (share least : ℕ) (below : Option Verdict) → HasOne At
    → TurnsBelow At verdict share below → 50 ≤ least → least < share → At (share - 1) verdict → ⊥
not_below At verdict share least None one turns low less here =
    let not : share ≤ least = omega (arith, turns, low) in
    absurd (omega (arith, not, less))
not_below At verdict share least (Some other) one turns low less here =
    turns.1.1 (one (share - 1) other verdict turns.1.0 here)

not_less : (At : ℕ → Verdict → Type 0) (a b : LinkShare) → HasOne At → IsLinkShare At a → IsLinkShare At b
    → a.verdict ≡ b.verdict → a.share < b.share → ⊥
not_less At a b one x y same less =
    let here : At (b.share - 1) a.verdict = x.same (b.share - 1) (omega (arith, less)) (omega (arith, y.high)) in
    not_below At b.verdict b.share a.share b.below one y.turns x.low less
    (subst (λ (v : Verdict). At (b.share - 1) v) same here)

one_below : (At : ℕ → Verdict → Type 0) (verdict : Verdict) (share : ℕ) (a b : Option Verdict) → HasOne At
    → TurnsBelow At verdict share a → TurnsBelow At verdict share b → a ≡ b
one_below At verdict share None None one x y = refl
one_below At verdict share None (Some b) one x y = absurd (omega (arith, x, y.0))
one_below At verdict share (Some a) None one x y = absurd (omega (arith, y, x.0))
one_below At verdict share (Some a) (Some b) one x y = ap Some (one (share - 1) a b x.1.0 y.1.0)

one_found : (At : ℕ → Verdict → Type 0) (a b : LinkShare) → HasOne At → IsLinkShare At a → IsLinkShare At b → a ≡ b
one_found At a b one x y =
    let verdict : a.verdict ≡ b.verdict = one 100 a.verdict b.verdict (x.same 100 x.high (omega arith))
    (y.same 100 y.high (omega arith)) in
    let back : b.verdict ≡ a.verdict = sym verdict in
    let share : a.share ≡ b.share = ⊎_elim (λ (is : a.share ≡ b.share). is)
    (λ (other : (a.share < b.share) ⊎ (b.share < a.share)).
    ⊎_elim (λ (less : a.share < b.share). absurd (not_less At a b one x y verdict less))
    (λ (less : b.share < a.share). absurd (not_less At b a one y x back less)) other)
    (cases_order a.share b.share) in
    let turns : TurnsBelow At b.verdict b.share a.below =
    subst (λ (n : ℕ). TurnsBelow At b.verdict n a.below) share
    (subst (λ (v : Verdict). TurnsBelow At v a.share a.below) verdict x.turns) in
    let below = one_below At b.verdict b.share a.below b.below one turns y.turns in
    λ i. record { verdict = verdict i; share = share i; below = below i }

pub one_link_share : (pages : ℕ) (touches : List GuestTouch) (trial : MigrationTrial) (a b : LinkShare)
    → IsLinkShare (VerdictAt pages touches trial) a → IsLinkShare (VerdictAt pages touches trial) b → a ≡ b
one_link_share pages touches trial a b x y =
    one_found (VerdictAt pages touches trial) a b
    (λ n v w v_is w_is. one_verdict pages touches (over_share trial n) v w v_is w_is) x y

-- the shares that were tried, of which the next has another verdict
pub turns_at : (At : ℕ → Verdict → Type 0) (verdict other : Verdict) (steps : ℕ) → steps < 50
    → HaveVerdict At verdict steps → At (99 - steps) other → ¬ (other ≡ verdict)
    → IsLinkShare At (record { verdict = verdict; share = 100 - steps; below = Some other })
turns_at At verdict other steps few all here differs =
    let next : 99 - steps ≡ (100 - steps) - 1 = omega (arith, few) in
    record {
      low = omega (arith, few);
      high = omega (arith, few);
      same = all;
      turns = (omega (arith, few), (subst (λ (n : ℕ). At n other) next here, differs));
    }

-- all shares that are tried have the verdict
pub turns_nowhere : (At : ℕ → Verdict → Type 0) (verdict : Verdict) (steps : ℕ) → 50 ≤ steps
    → HaveVerdict At verdict steps → IsLinkShare At (record { verdict = verdict; share = 50; below = None })
turns_nowhere At verdict steps end all = record {
  low = omega arith;
  high = omega arith;
  same = λ percent low high. all percent (omega (arith, low, end)) high;
  turns = refl;
}
