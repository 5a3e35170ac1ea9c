-- The two command lines of `precopy-view`, as its commands make them.
use Rattle.std.proofs.Common.{◌≡◌, true, false, [], ◌∷◌, ◌++◌, Some, codes, refl, ap, ◌∙◌, inl, inr}
use Rattle.clap.proofs.OnLiterals.{clap_on_literals}
use Rattle.clap.specs.Faults.{is_simple_and_free}
use Rattle.clap.specs.Simple.{App, app_of, app_of_fields, built, is_simple, on_top, with_subcommand}
use Rattle.clap.specs.Walk.{Text}
use Rattle.clap.specs.declared.builder.command.Command.{Command}
use Rattle.clap.specs.declared.builder.command.Command.TheViews.{out-Command as fields_of}
use Rattle.job_commands.specs.Commands.{case_rule, flag_rule, leaf, report_rules, sweep_rules}
use Rattle.job_commands.proofs.HelpLemmas.{AreNamed}
use Rattle.view_commands.specs.Units.{scale_rules, unit_rules}
use Rattle.view_commands.specs.Commands.{IsCommand, IsDocument, budget_rules, json_line, prediction_rules}
use Rattle.view_commands.specs.Commands.{start_rules, style_rules, view_line}

-- a command line of this name, before it has any command
abbrev pub bare : Text → App
bare name = record { top = leaf name []; subs = [] }

abbrev pub requiring : App → App
requiring app = on_top (λ s. record s { subcommand_required = true }) app

abbrev pub versioned : App → App
versioned app = on_top (λ s. record s { has_version = true }) app

pub after_required : (old new : Command) (app : App) → app_of old ≡ app
    → fields_of new ≡ record (fields_of old) { subcommand_required = true } → app_of new ≡ requiring app
after_required old new app was is = ap app_of_fields is ∙ ap requiring was

pub after_version : (old new : Command) (app : App) (text : _) → app_of old ≡ app
    → fields_of new ≡ record (fields_of old) { version = Some text } → app_of new ≡ versioned app
after_version old new app text was is = ap app_of_fields is ∙ ap versioned was

pub after_bin_name : (old new : Command) (app : App) (name : _) → app_of old ≡ app
    → fields_of new ≡ record (fields_of old) { bin_name = name } → app_of new ≡ app
after_bin_name old new app name was is = ap app_of_fields is ∙ was

pub view_line_is : with_subcommand (with_subcommand (with_subcommand
    (with_subcommand (with_subcommand (with_subcommand (requiring (versioned (bare (codes "precopy-view"))))
    (leaf (codes "predict") prediction_rules)) (leaf (codes "when")
    (start_rules ++ flag_rule (codes "chart") ∷ []))) (leaf (codes "json") []))
    (leaf (codes "advise") budget_rules)) (leaf (codes "show") style_rules))
    (leaf (codes "chart") (report_rules ++ unit_rules)) ≡ view_line
unfolding view_line
view_line_is = refl

pub json_line_is : with_subcommand (with_subcommand (with_subcommand
    (with_subcommand (requiring (bare (codes "json"))) (leaf (codes "report") (report_rules ++ unit_rules)))
    (leaf (codes "sweep") ((sweep_rules ++ case_rule ∷ []) ++ scale_rules)))
    (leaf (codes "predict") prediction_rules)) (leaf (codes "when") start_rules)
    ≡ json_line
unfolding json_line
json_line_is = refl

pub view_is_simple : is_simple view_line ≡ true
unfolding view_line clap_on_literals
view_is_simple = refl

pub view_is_free : is_simple_and_free view_line ≡ true
unfolding view_line clap_on_literals
view_is_free = refl

pub view_requires : (built view_line).top.subcommand_required ≡ true
unfolding view_line clap_on_literals
view_requires = refl

pub view_is_named : AreNamed IsCommand (built view_line).subs
unfolding view_line clap_on_literals
view_is_named = (
  refl,
  inr (inl refl),
  (
    refl,
    inr (inr (inl refl)),
    (
      refl,
      inr (inr (inr (inl refl))),
      (
        refl,
        inr (inr (inr (inr (inl refl)))),
        (
          refl,
          inr (inr (inr (inr (inr (inl refl))))),
          (
            refl,
            inr (inr (inr (inr (inr (inr refl))))),
            (refl, inl refl, tt),
          ),
        ),
      ),
    ),
  ),
)

pub view_has_help : (built view_line).top.disable_help_subcommand ≡ false
unfolding view_line clap_on_literals
view_has_help = refl

pub json_is_simple : is_simple json_line ≡ true
unfolding json_line clap_on_literals
json_is_simple = refl

pub json_is_free : is_simple_and_free json_line ≡ true
unfolding json_line clap_on_literals
json_is_free = refl

pub json_requires : (built json_line).top.subcommand_required ≡ true
unfolding json_line clap_on_literals
json_requires = refl

pub json_is_named : AreNamed IsDocument (built json_line).subs
unfolding json_line clap_on_literals
json_is_named = (
  refl,
  inr (inl refl),
  (
    refl,
    inr (inr (inl refl)),
    (refl, inr (inr (inr (inl refl))), (refl, inr (inr (inr (inr refl))), (refl, inl refl, tt))),
  ),
)

pub json_has_help : (built json_line).top.disable_help_subcommand ≡ false
unfolding json_line clap_on_literals
json_has_help = refl
