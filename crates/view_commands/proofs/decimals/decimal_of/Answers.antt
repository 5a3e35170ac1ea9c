use Rattle.std.proofs.Common.{ℕ, ◌<◌, List, length, Option, Some, None}
use Rattle.std.specs.Prelude.{IfNone}
use Rattle.std.specs.Borrow.{Bor}
use Rattle.std.proofs.lemmas.Str.Pattern.{IsSplitOnceResult}
use Rattle.view_commands.specs.Decimals.{ArePlaced, IsDecimal, IsDigits}
use Rattle.view_commands.proofs.DecimalLemmas.{decimal_cut}
use Rattle.view_commands.proofs.QuantityLemmas.{if_none}
use Rattle.view_commands.proofs.decimals.decimal_of.Goals as goal

-- the text is no decimal number
abbrev Never : List ℕ → Type 0
Never text = (digits places : ℕ) → ¬ IsDecimal text digits places

uncut : (text : List ℕ) → IsSplitOnceResult 46 text None → ((n : ℕ) → ¬ IsDigits text n) → Never text
uncut text split never = λ digits places d. never digits (decimal_cut text None split digits places d).0

cut : (text : List ℕ) (whole fraction : Bor (List ℕ)) → IsSplitOnceResult 46 text (Some (whole, fraction))
    → ((digits places : ℕ) → 0 < length fraction.now → ¬ ArePlaced whole.now fraction.now digits places) → Never text
cut text whole fraction split never = λ digits places d.
    let parts = decimal_cut text (Some (whole, fraction)) split digits places d in
    never digits places parts.0 parts.1

never_if : {A : Type 0} (o : Option A) (P Q : Type 0) → (P → Q) → IfNone o P → IfNone o Q
never_if None P Q follows holds = follows holds
never_if (Some x) P Q follows holds = tt

pub returns-in_err-digits-in-None-clause-none : goal.returns-in_err-digits-in-None-clause-none
returns-in_err-digits-in-None-clause-none c = if_none c.from_residual.result (Never c.args.text.now)
    (uncut c.args.text.now c.in-None.ensures.cases c.in_err-digits-in-None.ensures.none)

pub returns-in-Some-clause-none : goal.returns-in-Some-clause-none
returns-in-Some-clause-none c = never_if c.placed.result _ (Never c.args.text.now)
    (cut c.args.text.now c.in-Some.whole c.in-Some.fraction c.in-Some.ensures.cases) c.placed.ensures.none
