use Rattle.open_checks.proofs.Kept.{no_words, zeros_kept}
use Rattle.open_checks.proofs.laws.zeros_hold_nothing.Goals as goal

pub returns-clause-stamps : goal.returns-clause-stamps
returns-clause-stamps c = no_words

pub returns-clause-kept : goal.returns-clause-kept
returns-clause-kept c = zeros_kept
