-- The pages that a plan leaves are those that its last round dirtied.
use Rattle.std.proofs.Common.{◌≡◌, ℕ, ◌+◌, ◌-◌, ◌≤◌, List, [], ◌∷◌, length, map, take, drop, sym, ap, ◌∙◌}
use Rattle.std.proofs.Common.{arith}
use Rattle.std.specs.List.{fold}
use Rattle.std.proofs.lemmas.List.{length-append, length-map, take_at}
use Rattle.std.proofs.lemmas.List.Folds.{fold-map}
use Rattle.migration_model.specs.Rates.{AfterRound, MigrationSettings, after_round, goes_on, stops}
use Rattle.migration_model.specs.Rounds.{AreRounds, InEither, IsEnd, IsPlan, IsRound, MigrationPlan, NextRound}
use Rattle.migration_model.specs.Rounds.{PlannedRound, first_round, round_after}
use Rattle.migration_model.specs.Touches.{GuestTouch}
use Rattle.migration_model.specs.Trace.{last_by}
use Rattle.round_planner.specs.Rows.{row_of, rows_over}
use Rattle.round_planner.specs.declared.parts.RoundRow.{RoundRow}

-- what the last of some rounds dirtied, or this many pages if there is none
abbrev last_from : ℕ → List PlannedRound → ℕ
last_from before rounds = fold (λ last (round : PlannedRound). round.dirtied) before rounds

left_after : (pages : ℕ) (touches : List GuestTouch) (s : MigrationSettings) (now : NextRound) (round : PlannedRound)
    (rest : List PlannedRound) (plan : MigrationPlan) → IsRound pages touches s now round
    → ((next : NextRound) → AreRounds pages touches s next rest plan → last_from round.dirtied rest ≡ length plan.last)
    → (after : AfterRound)
    → InEither after (λ rate. AreRounds pages touches s (round_after pages touches now round rate) rest plan)
    (λ reason. (rest ≡ []) × (plan.reason ≡ reason) × IsEnd pages touches s round plan)
    → last_from round.dirtied rest ≡ length plan.last
left_after pages touches s now round rest plan is tail (goes_on rate) more =
    tail (round_after pages touches now round rate) more
left_after pages touches s now round rest plan is tail (stops reason) end =
    ap (last_from round.dirtied) end.0 ∙ is.dirtied_is ∙ sym (ap length end.2.last_is)

left_from : (pages : ℕ) (touches : List GuestTouch) (s : MigrationSettings) (now : NextRound) (before : ℕ)
    (rounds : List PlannedRound) (plan : MigrationPlan) → AreRounds pages touches s now rounds plan
    → last_from before rounds ≡ length plan.last
left_from pages touches s now before [] plan none = absurd none
left_from pages touches s now before (round ∷ rest) plan are =
    left_after pages touches s now round rest plan are.0
    (λ next more. left_from pages touches s next round.dirtied rest plan more)
    (after_round s round.dirtied (round.to - round.from) (now.done + 1)) are.1

-- the rows of a plan's rounds, which lie over the front of a buffer
pub left_is : (pages : ℕ) (touches : List GuestTouch) (s : MigrationSettings) (plan : MigrationPlan)
    (old new : List RoundRow) (count : ℕ) → IsPlan pages touches s plan → new ≡ rows_over plan.rounds old
    → count ≡ length plan.rounds
    → last_by (λ (row : RoundRow). row.dirtied) (take count new) ≡ length plan.last
left_is pages touches s plan old new count is rows counted =
    let long : length (map row_of plan.rounds) ≡ count = length-map plan.rounds row_of ∙ sym counted in
    let front : take count new ≡ map row_of plan.rounds = ap (take count) rows
    ∙ take_at (map row_of plan.rounds) (drop (length plan.rounds) old) count long in
    ap (last_by (λ (row : RoundRow). row.dirtied)) front
    ∙ fold-map (λ last (row : RoundRow). row.dirtied) row_of 0 plan.rounds
    ∙ left_from pages touches s (first_round pages touches s) 0 plan.rounds plan is

-- there is a row for each round
pub rows_low : (rounds : List PlannedRound) (old new : List RoundRow) (count : ℕ) → new ≡ rows_over rounds old
    → count ≡ length rounds → count ≤ length new
rows_low rounds old new count rows counted =
    let all = ap length rows ∙ length-append (map row_of rounds) (drop (length rounds) old) in
    omega (arith, all, counted, length-map rounds row_of)
