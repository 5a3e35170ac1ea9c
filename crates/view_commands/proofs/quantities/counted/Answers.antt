use Rattle.std.proofs.Common.{◌≡◌, ℕ, ◌*◌, ◌/◌, ◌<◌, ◌^◌, List, ◌++◌, Option, Some, None, sym, subst}
use Rattle.std.specs.Prelude.{IfNone, IfSome}
use Rattle.std.specs.Option.{SomeIff}
use Rattle.view_commands.specs.Decimals.{IsDecimal}
use Rattle.view_commands.specs.Quantities.{IsCounted}
use Rattle.view_commands.proofs.QuantityLemmas.{if_none, not_decimal, not_small, stripped}
use Rattle.view_commands.proofs.quantities.counted.Goals as goal

pub returns-in_err-decimal_of-clause-none : goal.returns-in_err-decimal_of-clause-none
returns-in_err-decimal_of-clause-none c =
    let word = c.args.word.now in
    let name = c.args.name.now in
    let text = c.in_ok-text.text.now in
    if_none _ _ (not_decimal word name text c.args.factor (stripped word name text c.in_ok-text.ensures.cases)
    c.in_err-decimal_of.ensures.none)

fits : (o : Option ℕ) (word name text : List ℕ) (factor digits places : ℕ)
    → SomeIff o (digits * factor / 10 ^ places < 2 ^ 64) (digits * factor / 10 ^ places) → word ≡ text ++ name
    → IsDecimal text digits places → IfSome o (IsCounted word name factor)
fits None word name text factor digits places is word_is decimal = tt
fits (Some n) word name text factor digits places is word_is decimal = record {
  text = text;
  word_is = word_is;
  digits = digits;
  places = places;
  decimal = decimal;
  is_rounded = is.1;
  fits = subst (λ (m : ℕ). m < 2 ^ 64) (sym is.1) is.0;
}

too_great : (o : Option ℕ) (word name text : List ℕ) (factor digits places : ℕ)
    → SomeIff o (digits * factor / 10 ^ places < 2 ^ 64) (digits * factor / 10 ^ places) → word ≡ text ++ name
    → IsDecimal text digits places → IfNone o ((n : ℕ) → ¬ IsCounted word name factor n)
too_great None word name text factor digits places high is decimal =
    not_small word name text factor digits places is decimal high
too_great (Some n) word name text factor digits places is word_is decimal = tt

pub returns-clause-some : goal.returns-clause-some
returns-clause-some c =
    let word = c.args.word.now in
    let name = c.args.name.now in
    let text = c.in_ok-text.text.now in
    fits c.times.result word name text c.args.factor _ _ c.times.ensures
    (stripped word name text c.in_ok-text.ensures.cases) c.in_ok-decimal_of.ensures.some

pub returns-clause-none : goal.returns-clause-none
returns-clause-none c =
    let word = c.args.word.now in
    let name = c.args.name.now in
    let text = c.in_ok-text.text.now in
    too_great c.times.result word name text c.args.factor _ _ c.times.ensures
    (stripped word name text c.in_ok-text.ensures.cases) c.in_ok-decimal_of.ensures.some
