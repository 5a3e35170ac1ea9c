-- How sure an answer is, in words. This project's own.
use Rattle.std.specs.Prelude.{ℕ, List, ◌++◌, codes, Option, None, Some}
use Rattle.predictions.specs.declared.agreement.counts.AnswerCounts.{AnswerCounts}
use Rattle.predictions.specs.declared.agreement.verdicts.Agreement.{Agreement}
use Rattle.sweep_report.specs.Lines.{field}

-- in how many draws, and from how many starts
unfoldable pub draws_words : ℕ → ℕ → List ℕ
draws_words part whole = field (codes ", in ") part ++ (field (codes " of ") whole ++ codes " redraws and")

unfoldable pub starts_words : ℕ → ℕ → List ℕ
starts_words part whole = field (codes " from ") part ++ (field (codes " of ") whole ++ codes " starts")

-- in how many draws a migration converges, if pages were sampled, and in how many it keeps its limit
abbrev pub draws_converging : Option AnswerCounts → List ℕ
draws_converging None = codes ","
draws_converging (Some counts) = draws_words counts.converging counts.whole

abbrev pub draws_kept : Option AnswerCounts → List ℕ
draws_kept None = codes ","
draws_kept (Some counts) = draws_words counts.kept counts.whole

-- the same, and from how many starts
abbrev pub converging_words : Agreement → List ℕ
converging_words a = draws_converging a.draws ++ starts_words a.starts.converging a.starts.whole

abbrev pub kept_words : Agreement → List ℕ
kept_words a = draws_kept a.draws ++ starts_words a.starts.kept a.starts.whole
