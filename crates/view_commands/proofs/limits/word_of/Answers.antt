use Rattle.std.proofs.Common.{◌≡◌, ℕ, List, Option, Some, None, sym, ◌∙◌}
use Rattle.std.specs.Prelude.{IfNone, IfSome, option_map}
use Rattle.std.specs.Borrow.{Bor}
use Rattle.clap.proofs.WalkLemmas.{first_value-rows}
use Rattle.clap.specs.Words.{found_of}
use Rattle.view_commands.proofs.limits.word_of.Goals as goal

given_at : (r : Option (Bor (List ℕ))) (x : Option (List ℕ)) → option_map (λ (s : Bor (List ℕ)). s.now) r ≡ x
    → IfSome r (λ word. x ≡ Some word.now)
given_at None x is = tt
given_at (Some w) x is = sym is

missing_at : (r : Option (Bor (List ℕ))) (x : Option (List ℕ)) → option_map (λ (s : Bor (List ℕ)). s.now) r ≡ x
    → IfNone r (x ≡ None)
missing_at None x is = sym is
missing_at (Some w) x is = tt

pub returns-clause-given : goal.returns-clause-given
returns-clause-given c = given_at c.get_str.result _ (c.get_str.ensures
    ∙ first_value-rows (found_of c.args.options.now) c.args.name.now)

pub returns-clause-missing : goal.returns-clause-missing
returns-clause-missing c = missing_at c.get_str.result _ (c.get_str.ensures
    ∙ first_value-rows (found_of c.args.options.now) c.args.name.now)
