-- The definitions' values for a reason, and for what comes after a round.
use Rattle.migration_model.specs.Rates.{StopReason, few_remain, too_fast, rounds_done, AfterRound, goes_on, stops}
use Rattle.rate_limit.specs.declared.outcome.Reason.{Reason}
use Rattle.rate_limit.specs.declared.outcome.Reason.TheVariants.{Few, Fast, Rounds}
use Rattle.rate_limit.specs.declared.outcome.Next.{Next}
use Rattle.rate_limit.specs.declared.outcome.Next.TheVariants.{Go, Stop}

abbrev pub reason_of : Reason → StopReason
reason_of Few = few_remain
reason_of Fast = too_fast
reason_of Rounds = rounds_done

abbrev pub outcome_of : Next → AfterRound
outcome_of (Go rate) = goes_on rate
outcome_of (Stop reason) = stops (reason_of reason)
