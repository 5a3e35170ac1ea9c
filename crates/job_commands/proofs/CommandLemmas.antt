-- A command with more options.
use Rattle.std.proofs.Common.{◌≡◌, ℕ, ◌+◌, ◌<◌, Bool, true, false, ◌||◌, List, [], ◌∷◌, ◌++◌, length, map, take, get_or}
use Rattle.std.proofs.Common.{append_assoc, codes, refl, ap, ◌∙◌}
use Rattle.std.proofs.lemmas.List.{map-append, take_more}
use Rattle.std.proofs.Math.Bool.{or-false}
use Rattle.clap.specs.Simple.{App, app_of, app_of_fields, on_top, shape_of, with_rule, with_subcommand}
use Rattle.clap.specs.Walk.{Rule, Text, rule_of}
use Rattle.clap.specs.Built.{AddsArg, AddsSubcommand}
use Rattle.clap.specs.declared.builder.arg.Arg.{Arg}
use Rattle.clap.specs.declared.builder.command.Command.{Command}
use Rattle.clap.specs.declared.builder.command.Command.TheViews.{out-Command as fields_of}
use Rattle.job_commands.specs.Commands.{AddsRules, IsLeaf, case_rule, leaf, live_rules, precopy_line, report_rules}
use Rattle.job_commands.specs.Commands.{sweep_rules, with_rules}

-- options in two steps
pub adds_both : (old mid new : Command) (xs ys : List Rule) → AddsRules old xs mid → AddsRules mid ys new
    → AddsRules old (xs ++ ys) new
adds_both old mid new xs ys first second = record {
  app = second.app ∙ ap (λ (a : App). with_rules a ys) first.app
      ∙ ap (λ (rules : List Rule). on_top (λ s. record s { rules = rules }) (app_of old))
      (append_assoc (app_of old).top.rules xs ys);
  globals = second.globals ∙ first.globals;
}

pub adds_arg : (old new : Command) (a : Arg) (rule : Rule) → AddsArg old a new → a.global ≡ false → rule_of a ≡ rule
    → AddsRules old (rule ∷ []) new
adds_arg old new a rule added local is = record {
  app = added.shape local ∙ ap (λ (r : Rule). with_rule (app_of old) r) is;
  globals = added.globals ∙ ap (λ (b : Bool). (fields_of old).has_globals || b) local
      ∙ or-false (fields_of old).has_globals;
}

pub map-take_more : {A B : Type 0} (f : A → B) (xs : List A) (i : ℕ) (d : A) → i < length xs
    → map f (take (i + 1) xs) ≡ map f (take i xs) ++ f (get_or xs i d) ∷ []
map-take_more f xs i d low = ap (λ (l : List _). map f l) (take_more xs i d low)
    ∙ map-append f (take i xs) (get_or xs i d ∷ [])

-- options of a command that had none
pub leaf_with : (old new : Command) (name : Text) (rules : List Rule) → IsLeaf old name [] → AddsRules old rules new
    → IsLeaf new name rules
leaf_with old new name rules is added = record {
  app = added.app ∙ ap (λ (a : App). with_rules a rules) is.app;
  globals = added.globals ∙ is.globals;
}

-- one more command
pub adds_leaf : (old sub new : Command) (app : App) (name : Text) (rules : List Rule) → app_of old ≡ app
    → IsLeaf sub name rules → AddsSubcommand old sub new → app_of new ≡ with_subcommand app (leaf name rules)
adds_leaf old sub new app name rules was is added =
    added.shape is.globals ∙ ap (λ (a : App). with_subcommand a (shape_of sub)) was
    ∙ ap (λ (a : App). with_subcommand app a.top) is.app

-- the program's name, before any command follows it
abbrev pub bare_line : App
bare_line = record { top = record (leaf (codes "precopy") []) { subcommand_required = true }; subs = [] }

pub required_line : (old new : Command) → IsLeaf old (codes "precopy") []
    → fields_of new ≡ record (fields_of old) { subcommand_required = true } → app_of new ≡ bare_line
required_line old new is required = ap app_of_fields required
    ∙ ap (λ (a : App). on_top (λ s. record s { subcommand_required = true }) a) is.app

pub precopy_line_is : with_subcommand (with_subcommand (with_subcommand
    (with_subcommand bare_line (leaf (codes "image") [])) (leaf (codes "report") report_rules))
    (leaf (codes "live") live_rules))
    (leaf (codes "sweep") (sweep_rules ++ case_rule ∷ [])) ≡ precopy_line
unfolding precopy_line
precopy_line_is = refl
