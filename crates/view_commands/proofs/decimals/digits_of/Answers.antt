use Rattle.std.proofs.Common.{◌≡◌, ℕ, List, get_or, Option, Some, None, sym, ◌∙◌, arith}
use Rattle.std.specs.Prelude.{◌≢◌, Bool, IfNone, IfSome, false}
use Rattle.std.specs.Bool.{Decides}
use Rattle.std.proofs.lemmas.Bool.{true≢false}
use Rattle.std.proofs.lemmas.Str.Pattern.{starts_char}
use Rattle.view_commands.specs.Decimals.{IsDigits, IsWhole}
use Rattle.view_commands.proofs.DecimalLemmas.{no_plus, plain_digits, plain_whole}
use Rattle.view_commands.proofs.decimals.digits_of.Goals as goal

pub returns-then-starts_with-clause-none : goal.returns-then-starts_with-clause-none
returns-then-starts_with-clause-none c = λ n is.
    let starts = starts_char 43 c.args.text.now c.starts_with.result c.starts_with.ensures.cases (omega arith)
    (omega arith) in
    no_plus c.args.text.now n is (starts.0 c.if-starts_with.true)

no_plus_first : (text : List ℕ) (r : Bool) → Decides r (get_or text 0 0 ≡ 43) → r ≡ false → get_or text 0 0 ≢ 43
no_plus_first text r starts not = λ plus. true≢false (sym (starts.1 plus) ∙ not)

whole_is : (o : Option ℕ) (text : List ℕ) → get_or text 0 0 ≢ 43 → IfSome o (IsWhole text) → IfSome o (IsDigits text)
whole_is None text other is = tt
whole_is (Some n) text other is = plain_digits text n other is

none_is : (o : Option ℕ) (text : List ℕ) → get_or text 0 0 ≢ 43 → IfNone o ((n : ℕ) → ¬ IsWhole text n)
    → IfNone o ((n : ℕ) → ¬ IsDigits text n)
none_is None text other never = λ n is. never n (plain_whole text n other is)
none_is (Some n) text other is = tt

pub returns-clause-some : goal.returns-clause-some
returns-clause-some c =
    let starts = starts_char 43 c.args.text.now c.starts_with.result c.starts_with.ensures.cases (omega arith)
    (omega arith) in
    whole_is c.whole_of.result c.args.text.now
    (no_plus_first c.args.text.now c.starts_with.result starts c.if-starts_with.false) c.whole_of.ensures.some

pub returns-clause-none : goal.returns-clause-none
returns-clause-none c =
    let starts = starts_char 43 c.args.text.now c.starts_with.result c.starts_with.ensures.cases (omega arith)
    (omega arith) in
    none_is c.whole_of.result c.args.text.now
    (no_plus_first c.args.text.now c.starts_with.result starts c.if-starts_with.false) c.whole_of.ensures.none
