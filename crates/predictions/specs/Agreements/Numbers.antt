-- How sure an answer is, in the numbers that C and a web page have. This project's own.
use Rattle.std.specs.Prelude.{ℕ, Option, None, Some}
use Rattle.predictions.specs.Agreements.{sure_kept, sure_verdict}
use Rattle.predictions.specs.Predictions.{GuestPrediction}
use Rattle.predictions.specs.Questions.{verdict_number}
use Rattle.predictions.specs.Redrawn.Errors.{SampleErrors}
use Rattle.predictions.specs.declared.agreement.counts.AnswerCounts.{AnswerCounts}
use Rattle.predictions.specs.declared.agreement.numbers.AgreementNumbers.{AgreementNumbers}
use Rattle.predictions.specs.declared.agreement.verdicts.Agreement.{Agreement}
use Rattle.predictions.specs.declared.verdict.Verdict.{Verdict}

-- the counts of the draws, or zeros if no pages were sampled
abbrev pub counts_or_none : Option AnswerCounts → AnswerCounts
counts_or_none None = record { whole = 0; known = 0; converging = 0; kept = 0 }
counts_or_none (Some counts) = counts

-- the counts, and these answers
abbrev pub agreement_numbers : Agreement → Verdict → Verdict → AgreementNumbers
agreement_numbers a converges kept = record {
  draws = (counts_or_none a.draws).whole;
  draws_known = (counts_or_none a.draws).known;
  draws_converging = (counts_or_none a.draws).converging;
  draws_kept = (counts_or_none a.draws).kept;
  starts = a.starts.whole;
  starts_converging = a.starts.converging;
  starts_kept = a.starts.kept;
  converges = verdict_number converges;
  kept = verdict_number kept;
}

-- the counts, and whether the migration surely converges and keeps its limit
abbrev pub sure_numbers : ℕ → Agreement → GuestPrediction → Option SampleErrors → AgreementNumbers
sure_numbers limit a p errors = agreement_numbers a (sure_verdict a p) (sure_kept limit a p.cost errors)
