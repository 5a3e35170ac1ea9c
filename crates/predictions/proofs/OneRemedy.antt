-- What a search for remedies finds is determined.
use Rattle.std.proofs.Common.{◌≡◌, ◌∙◌, ◌↔◌, ◌+◌, ◌<◌, ℕ, Bool, true, false, List, Option, Some, None, refl, sym, ap}
use Rattle.std.proofs.Common.{subst, inl, inr}
use Rattle.std.proofs.lemmas.Bool.{cases_order, false≢true}
use Rattle.std.specs.Int.{div_ceil}
use Rattle.std.specs.Prelude.{IsTrue, min, unwrap_or}
use Rattle.migration_model.specs.Touches.{GuestTouch, last_tick_of}
use Rattle.predictions.specs.Remedies.Trials.{EndsWith, EndsWithin, KeepsLimit, KeepsWith, MigrationTrial}
use Rattle.predictions.specs.Remedies.{AllAnswer, AreEndings, AreRemedies, IsFirst, IsFound, IsFoundUnless, IsLeast}
use Rattle.predictions.specs.Remedies.{IsSlowed, TurnsAt, TurnsNear, TurnsNowhere, amount_on, count_on}
use Rattle.predictions.specs.declared.remedies.change.Change.TheVariants as changes
use Rattle.predictions.specs.declared.remedies.ending.Ending.{Ending}
use Rattle.predictions.specs.declared.remedies.finding.Remedies.{Remedies}
use Rattle.predictions.specs.declared.remedies.way.Way.{Way}
use Rattle.predictions.specs.declared.remedies.way.Way.TheVariants as ways
use Rattle.predictions.proofs.Turns.{both_answers}

-- what holds has one answer
one_answer : (a b : Bool) (P : Type 0) → IsTrue a ↔ P → IsTrue b ↔ P → a ≡ b
one_answer true true P x y = refl
one_answer false false P x y = refl
one_answer true false P x y = absurd (false≢true (y.1 (x.0 refl)))
one_answer false true P x y = absurd (false≢true (x.1 (y.0 refl)))

module _ (Keeps : ℕ → Type 0) where
  -- amounts that all have the answer are before the turn
  not_yet : (b : Bool) (way : Way) (before at n : ℕ) (x : TurnsAt Keeps b way before at) → AllAnswer Keeps b way n
      → x.place < n → ⊥
  not_yet b way before at n x all less =
      both_answers b (Keeps at) (subst (λ (m : ℕ). IsTrue b ↔ Keeps m) (sym x.at_is) (all x.place less)) x.turned

  one_place : (b : Bool) (way : Way) (p q r s : ℕ) (x : TurnsAt Keeps b way p q) (y : TurnsAt Keeps b way r s)
      → x.place ≡ y.place
  one_place b way p q r s x y = elim (cases_order x.place y.place) [
    | inl same ↦ same
    | inr (inl below) ↦ absurd (not_yet b way p q y.place x y.not_yet below)
    | inr (inr above) ↦ absurd (not_yet b way r s x.place y x.not_yet above)
  ]

  one_turn : (b : Bool) (way : Way) (p q r s : ℕ) → TurnsAt Keeps b way p q → TurnsAt Keeps b way r s
      → (p ≡ r) × (q ≡ s)
  one_turn b way p q r s x y =
      let same = one_place b way p q r s x y in (
        x.before_is ∙ ap (λ (n : ℕ). amount_on way n) same ∙ sym y.before_is,
        x.at_is ∙ ap (λ (n : ℕ). amount_on way (n + 1)) same ∙ sym y.at_is,
      )

  moved : (b : Bool) (m n p q r s : ℕ) → (m ≡ p) × (n ≡ q) → TurnsAt Keeps b (ways.Between m n) r s
      → TurnsAt Keeps b (ways.Between p q) r s
  moved b m n p q r s same x =
      subst (λ (k : ℕ). TurnsAt Keeps b (ways.Between p k) r s) same.1
      (subst (λ (k : ℕ). TurnsAt Keeps b (ways.Between k n) r s) same.0 x)

  one_near : (b : Bool) (way : Way) (p q r s : ℕ) → TurnsNear Keeps b way p q → TurnsNear Keeps b way r s
      → (p ≡ r) × (q ≡ s)
  one_near b way p q r s x y =
      let far = one_turn b way x.far_before x.far_at y.far_before y.far_at x.far y.far in
      let near = one_turn b (ways.Between y.far_before y.far_at) x.near_before x.near_at y.near_before y.near_at
      (moved b x.far_before x.far_at y.far_before y.far_at x.near_before x.near_at far x.near) y.near in
      one_turn b (ways.Between y.near_before y.near_at) p q r s
      (moved b x.near_before x.near_at y.near_before y.near_at p q near x.nearest) y.nearest

  -- what turns near turns
  not_nowhere : (b : Bool) (way : Way) (p q : ℕ) → TurnsNear Keeps b way p q → TurnsNowhere Keeps b way → ⊥
  not_nowhere b way p q x nowhere =
      not_yet b way x.far_before x.far_at (count_on way) x.far nowhere x.far.is_in

  pub one_first : (way : Way) (a b : Option ℕ) → IsFirst Keeps way a → IsFirst Keeps way b → a ≡ b
  one_first way None None x y = refl
  one_first way None (Some b) x y = absurd (not_nowhere false way y.0 b y.1 x)
  one_first way (Some a) None x y = absurd (not_nowhere false way x.0 a x.1 y)
  one_first way (Some a) (Some b) x y = ap Some ((one_near false way x.0 a y.0 b x.1 y.1).1)

  one_last : (start : ℕ) (a b : ℕ) → IsFound Keeps start true (Some a) → IsFound Keeps start true (Some b) → a ≡ b
  one_last start a b (inl x) (inl y) = (one_near true (ways.Down start) a x.0 b y.0 x.1 y.1).0
  one_last start a b (inl x) (inr y) = absurd (not_nowhere true (ways.Down start) a x.0 x.1 y.0)
  one_last start a b (inr x) (inl y) = absurd (not_nowhere true (ways.Down start) b y.0 y.1 x.0)
  one_last start a b (inr x) (inr y) = x.1 ∙ sym y.1

  one_found : (start : ℕ) (kept : Bool) (a b : Option ℕ) → IsFound Keeps start kept a → IsFound Keeps start kept b
      → a ≡ b
  one_found start true None b x y = absurd x
  one_found start true (Some a) None x y = absurd y
  one_found start true (Some a) (Some b) x y = ap Some (one_last start a b x y)
  one_found start false a b x y = one_first (ways.Up start) a b x y

  pub one_least : (start : ℕ) (a b : Option ℕ) → IsLeast Keeps start a → IsLeast Keeps start b → a ≡ b
  one_least start a b x y =
      let same = one_answer x.is_kept y.is_kept (Keeps start) x.answered y.answered in
      one_found start y.is_kept a b (subst (λ (k : Bool). IsFound Keeps start k a) same x.found) y.found

  pub one_speed : (kept : Bool) (a b : Option ℕ) → IsSlowed Keeps kept a → IsSlowed Keeps kept b → a ≡ b
  one_speed true a b x y = x ∙ sym y
  one_speed false None None x y = refl
  one_speed false None (Some b) x y = absurd (not_yet false ways.Slower y.0 b (count_on ways.Slower) y.1 x y.1.is_in)
  one_speed false (Some a) None x y = absurd (not_yet false ways.Slower x.0 a (count_on ways.Slower) x.1 y x.1.is_in)
  one_speed false (Some a) (Some b) x y = ap Some ((one_turn false ways.Slower x.0 a y.0 b x.1 y.1).1)

one_unless : (IsIt : Option ℕ → Type 0) (one : (a b : Option ℕ) → IsIt a → IsIt b → a ≡ b) (p q : Bool)
    (a b : Option ℕ) → p ≡ q → IsFoundUnless p IsIt a → IsFoundUnless q IsIt b → a ≡ b
one_unless IsIt one true true a b same x y = x ∙ sym y
one_unless IsIt one false false a b same x y = one a b x y
one_unless IsIt one true false a b same x y = absurd (false≢true (sym same))
one_unless IsIt one false true a b same x y = absurd (false≢true same)

module _ (pages : ℕ) (touches : List GuestTouch) (trial : MigrationTrial) where
  -- the link with which a trial ends, and the tick from which it does
  abbrev LinkEnds : Option ℕ → Type 0
  LinkEnds = IsLeast (EndsWith pages touches trial changes.Link) (div_ceil trial.limits.link 125)

  abbrev StartWay : Way
  StartWay = ways.Between (min trial.others.start (last_tick_of touches)) (unwrap_or trial.others.base 0)

  abbrev StartEnds : Option ℕ → Type 0
  StartEnds = IsFirst (EndsWith pages touches trial changes.Start) StartWay

  one_endings : (a b : Ending) → AreEndings pages touches trial a → AreEndings pages touches trial b → a ≡ b
  one_endings a b x y =
      let ends = one_answer a.ends b.ends (EndsWithin pages touches trial) x.ends y.ends in
      let link = one_unless LinkEnds
      (one_least (EndsWith pages touches trial changes.Link) (div_ceil trial.limits.link 125)) a.ends b.ends a.link
      b.link ends x.link y.link in
      let start = one_unless StartEnds (one_first (EndsWith pages touches trial changes.Start) StartWay) a.ends b.ends
      a.start b.start ends x.start y.start in
      λ i. record { ends = ends i; link = link i; start = start i }

  pub one_remedies : (a b : Remedies) → AreRemedies pages touches trial a → AreRemedies pages touches trial b → a ≡ b
  one_remedies a b x y =
      let kept = one_answer a.is_kept b.is_kept (KeepsLimit pages touches trial) x.kept y.kept in
      let link = one_least (KeepsWith pages touches trial changes.Link) (div_ceil trial.limits.link 125) a.link b.link
      x.link y.link in
      let downtime = one_least (KeepsWith pages touches trial changes.Downtime) trial.limits.downtime a.downtime
      b.downtime x.downtime y.downtime in
      let speed = one_speed (KeepsWith pages touches trial changes.Speed) b.is_kept a.speed b.speed
      (subst (λ (k : Bool). IsSlowed (KeepsWith pages touches trial changes.Speed) k a.speed) kept x.speed) y.speed in
      let ending = one_endings a.ending b.ending x.ending y.ending in
      λ i. record {
        is_kept = kept i;
        link = link i;
        downtime = downtime i;
        speed = speed i;
        ending = ending i;
      }
