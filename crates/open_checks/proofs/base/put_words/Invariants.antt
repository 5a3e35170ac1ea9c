use Rattle.open_checks.proofs.BaseWords.{AreMadeTo}
use Rattle.open_checks.proofs.base.put_words.Given as goal

abbrev pub invariant-loop-page : goal.invariant-loop-page
invariant-loop-page l = AreMadeTo l.trace l.count l.page l.greatest
