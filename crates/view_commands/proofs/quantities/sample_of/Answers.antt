use Rattle.std.proofs.Common.{ℕ, List, Some, None}
use Rattle.std.specs.Borrow.{Bor}
use Rattle.std.proofs.lemmas.Str.Pattern.{IsSplitOnceResult}
use Rattle.view_commands.specs.Decimals.{IsWhole}
use Rattle.view_commands.specs.Quantities.{IsSample}
use Rattle.view_commands.proofs.QuantityLemmas.{if_none, no_sample}
use Rattle.view_commands.proofs.quantities.sample_of.Goals as goal

-- no sample is spelled, whatever it would be
abbrev Never : List ℕ → Type 0
Never word = (sampled guest : ℕ) → ¬ IsSample word sampled guest

unsplit : (word : List ℕ) → IsSplitOnceResult 47 word None → Never word
unsplit word split = λ sampled guest is. no_sample word None split sampled guest is

first_not : (word : List ℕ) (before behind : Bor (List ℕ)) → IsSplitOnceResult 47 word (Some (before, behind))
    → ((n : ℕ) → ¬ IsWhole before.now n) → Never word
first_not word before behind split never = λ sampled guest is. never sampled
    (no_sample word (Some (before, behind)) split sampled guest is).0

second_not : (word : List ℕ) (before behind : Bor (List ℕ)) → IsSplitOnceResult 47 word (Some (before, behind))
    → ((n : ℕ) → ¬ IsWhole behind.now n) → Never word
second_not word before behind split never = λ sampled guest is. never guest
    (no_sample word (Some (before, behind)) split sampled guest is).1

pub returns-in_err-before-clause-none : goal.returns-in_err-before-clause-none
returns-in_err-before-clause-none c = if_none c.from_residual.result (Never c.args.word.now)
    (unsplit c.args.word.now c.in_err-before.ensures.cases)

pub returns-in_err-whole_of-clause-none : goal.returns-in_err-whole_of-clause-none
returns-in_err-whole_of-clause-none c =
    if_none c.from_residual-in_err-whole_of.result (Never c.args.word.now)
    (first_not c.args.word.now c.in_ok-before.before c.in_ok-before.behind c.in_ok-before.ensures.cases
    c.in_err-whole_of.ensures.none)

pub returns-in_err-whole_of-2-clause-none : goal.returns-in_err-whole_of-2-clause-none
returns-in_err-whole_of-2-clause-none c =
    if_none c.from_residual-in_err-whole_of-2.result (Never c.args.word.now)
    (second_not c.args.word.now c.in_ok-before.before c.in_ok-before.behind c.in_ok-before.ensures.cases
    c.in_err-whole_of-2.ensures.none)
