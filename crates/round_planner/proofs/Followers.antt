-- What follows a round is one thing.
use Rattle.std.proofs.Common.{◌≡◌, ◌+◌, sym, ap, ◌∙◌}
use Rattle.migration_model.specs.Rates.{MigrationSettings, StopReason}
use Rattle.migration_model.specs.Sweeps.{outcome_with}
use Rattle.migration_model.specs.Rates.{duration_of}
use Rattle.round_planner.specs.Steps.{IsFollowing, numbers_after}
use Rattle.round_planner.specs.declared.numbers.Following.{Following}
use Rattle.round_planner.specs.declared.numbers.Following.TheVariants.{Round, Stop as Ended}
use Rattle.round_planner.specs.declared.numbers.RoundNumbers.{RoundNumbers}
use Rattle.round_planner.specs.declared.numbers.RoundSums.{RoundSums}

pub one_following_lem : (settings : MigrationSettings) (now : RoundNumbers) (ran : RoundSums) (a b : Following)
    → IsFollowing settings now ran a → IsFollowing settings now ran b → a ≡ b
one_following_lem settings now ran (Round a) (Round b) is_a is_b =
    let rate : a.step.rate ≡ b.step.rate = cc (is_a.0.0, is_b.0.0) in
    let done : a.step.done ≡ b.step.done = is_a.0.1.0 ∙ sym is_b.0.1.0 in
    let from : a.step.from ≡ b.step.from = is_a.0.1.1 ∙ sym is_b.0.1.1 in
    let step : a.step ≡ b.step = λ i. record { done = done i; from = from i; rate = rate i } in
    ap (λ (numbers : RoundNumbers). Round numbers) (is_a.1 ∙ ap (numbers_after now ran) step ∙ sym is_b.1)
one_following_lem settings now ran (Round a) (Ended b) is_a is_b = absurd (cc (is_a.0.0, is_b.1.0))
one_following_lem settings now ran (Ended a) (Round b) is_a is_b = absurd (cc (is_a.1.0, is_b.0.0))
one_following_lem settings now ran (Ended a) (Ended b) is_a is_b =
    let reason : is_a.0 ≡ is_b.0 = cc (is_a.1.0, is_b.1.0) in
    ap (λ (outcome : _). Ended outcome) (is_a.1.1 ∙ ap (λ (reason : StopReason). outcome_with (now.step.done + 1) reason
    ran.to (duration_of ran.dirtied settings.max) ((now.total + ran.sent) + ran.dirtied)) reason ∙ sym is_b.1.1)
