-- The remaining rounds of a plan.
use Rattle.std.proofs.Common.{◌≡◌, ℕ, ◌+◌, ◌-◌, ◌<◌, ◌≤◌, ◌⊎◌, inl, inr, List, [], ◌∷◌, ◌++◌, length, take, drop}
use Rattle.std.proofs.Common.{get_or, refl, sym, ap, subst, ◌∙◌, arith}
use Rattle.std.proofs.lemmas.List.{drop_more, take_more, take_all, drop_all}
use Rattle.migration_model.specs.Trace.{GuestTrace}
use Rattle.migration_model.specs.Rates.{MigrationSettings, AfterRound, goes_on, stops, after_round, duration_of}
use Rattle.migration_model.specs.Rounds.{PlannedRound, MigrationPlan, NextRound, round_after, IsRound}
use Rattle.migration_model.specs.Rounds.{IsEnd, InEither, AreRounds}
use Rattle.migration_model.specs.Touches.{touches_of}

-- none is left, and the guest stops at this tick; or the next begins then
abbrev pub Remaining : GuestTrace → MigrationSettings → MigrationPlan → ℕ → List PlannedRound → Type 0
Remaining trace s plan tick rounds = ((rounds ≡ []) × (plan.stop ≡ tick))
    ⊎ ((now : NextRound) × (now.from ≡ tick) × AreRounds trace.pages (touches_of trace) s now rounds plan)

pub none_remains : (trace : GuestTrace) (s : MigrationSettings) (plan : MigrationPlan) (tick : ℕ)
    → Remaining trace s plan tick [] → plan.stop ≡ tick
none_remains trace s plan tick (inl done) = done.1
none_remains trace s plan tick (inr more) = absurd more.2

cons_nil : (round : PlannedRound) (rounds : List PlannedRound) → round ∷ rounds ≡ [] → ⊥
cons_nil round rounds e = (let len : length (round ∷ rounds) ≡ 0 = ap length e in omega (arith, len))

behind : (trace : GuestTrace) (s : MigrationSettings) (plan : MigrationPlan) (now : NextRound) (round : PlannedRound)
    (rounds : List PlannedRound) (next : AfterRound)
    → InEither next (λ rate. AreRounds trace.pages (touches_of trace) s
    (round_after trace.pages (touches_of trace) now round rate) rounds plan)
    (λ reason. (rounds ≡ []) × (plan.reason ≡ reason) × IsEnd trace.pages (touches_of trace) s round plan)
    → Remaining trace s plan round.to rounds
behind trace s plan now round rounds (goes_on rate) is = inr
    (round_after trace.pages (touches_of trace) now round rate, refl, is)
behind trace s plan now round rounds (stops reason) is = inl (is.0, is.2.stop_is)

-- the next round begins at the tick, and what remains after it begins where it ends
pub next_remains : (trace : GuestTrace) (s : MigrationSettings) (plan : MigrationPlan) (tick : ℕ) (round : PlannedRound)
    (rounds : List PlannedRound)
    → Remaining trace s plan tick (round ∷ rounds) → (round.from ≡ tick) × (round.from ≤ round.to)
    × Remaining trace s plan round.to rounds
next_remains trace s plan tick round rounds (inl done) = absurd (cons_nil round rounds done.0)
next_remains trace s plan tick round rounds (inr more) =
    let is : IsRound trace.pages (touches_of trace) s more.0 round = more.2.0 in (
      is.from_is ∙ more.1,
      (let to : round.to ≡ round.from + duration_of (length round.sent) round.rate = is.to_is in omega (arith, to)),
      behind trace s plan more.0 round rounds (after_round s round.dirtied (round.to - round.from) (more.0.done + 1))
          more.2.1,
    )

-- the round with a number, of those that remain from it on
pub round_next : (trace : GuestTrace) (s : MigrationSettings) (plan : MigrationPlan) (tick number : ℕ)
    (round : PlannedRound) → number < length plan.rounds
    → round ≡ get_or plan.rounds number round → Remaining trace s plan tick (drop number plan.rounds)
    → (round.from ≡ tick) × (round.from ≤ round.to) × Remaining trace s plan round.to (drop (number + 1) plan.rounds)
round_next trace s plan tick number round low there remaining =
    next_remains trace s plan tick round (drop (number + 1) plan.rounds)
    (subst (λ (rounds : List PlannedRound). Remaining trace s plan tick rounds)
    (drop_more plan.rounds number round low ∙ ap (λ (r : PlannedRound). r ∷ drop (number + 1) plan.rounds) (sym there))
    remaining)

pub taken_next : (rounds : List PlannedRound) (number : ℕ) (round : PlannedRound) → number < length rounds → round
    ≡ get_or rounds number round
    → take (number + 1) rounds ≡ take number rounds ++ round ∷ []
taken_next rounds number round low there = take_more rounds number round low
    ∙ ap (λ (r : PlannedRound). take number rounds ++ r ∷ []) (sym there)

pub all_taken : (rounds : List PlannedRound) (number : ℕ) → length rounds ≤ number → (take number rounds ≡ rounds)
    × (drop number rounds ≡ [])
all_taken rounds number past = (take_all number rounds past, drop_all number rounds past)
