-- The command lines of `precopy-view`: its commands, those below `json`, and the options of each.
use Rattle.std.specs.Prelude.{◌≡◌, ◌⊎◌, List, [], ◌∷◌, ◌++◌, Option, Some, None, if◌then◌else◌, true, false, codes}
use Rattle.std.specs.Str.{bytes_eq}
use Rattle.clap.specs.Simple.{App, new_rule, new_shape}
use Rattle.clap.specs.Walk.{Rule, Text}
use Rattle.clap.specs.declared.builder.action.ArgAction.TheVariants.{Set}
use Rattle.job_commands.specs.Commands.{case_rule, flag_rule, leaf, number_rule, report_rules, sweep_rules}
use Rattle.view_commands.specs.Units.{scale_rules, unit_rules}

-- the options of a prediction: those of a report, and whether it goes by Clark's rounds
abbrev pub prediction_rules : List Rule
prediction_rules = report_rules ++ flag_rule (codes "clark") ∷ unit_rules

-- the option of the first start, which replaces `start`
abbrev pub from_rule : Rule
from_rule = record (number_rule (codes "start")) { long = Some (codes "from") }

-- the options of starts
abbrev pub start_rules : List Rule
start_rules = from_rule ∷ number_rule (codes "to") ∷ number_rule (codes "every") ∷ number_rule (codes "inc")
    ∷ number_rule (codes "rounds") ∷ number_rule (codes "base") ∷ number_rule (codes "window")
    ∷ number_rule (codes "workers") ∷ flag_rule (codes "skip") ∷ flag_rule (codes "clark") ∷ unit_rules

-- the options of advice
abbrev pub budget_rules : List Rule
budget_rules = sweep_rules ++ number_rule (codes "max") ∷ number_rule (codes "total") ∷ number_rule (codes "down")
    ∷ unit_rules

-- the option of colors, whose word may be left out
abbrev pub color_rule : Rule
color_rule = record (new_rule (codes "color")) {
  long = Some (codes "color");
  action = Some Set;
  range = Some (record { start_inclusive = 0; end_inclusive = 1 });
  value_names = 1;
  missing = codes "always" ∷ [];
}

-- the options of a report for a terminal
abbrev pub style_rules : List Rule
style_rules = report_rules ++ number_rule (codes "width") ∷ color_rule ∷ unit_rules

-- the commands of `precopy-view`, one of which must follow the program's name
unfoldable pub view_line : App
view_line = record {
  top = record (new_shape (codes "precopy-view")) { is_leaf = false; has_version = true; subcommand_required = true };
  subs = leaf (codes "predict") prediction_rules ∷ leaf
      (codes "when") (start_rules ++ flag_rule (codes "chart") ∷ [])
      ∷ leaf (codes "json") [] ∷ leaf (codes "advise") budget_rules ∷ leaf (codes "show") style_rules ∷ leaf
      (codes "chart") (report_rules ++ unit_rules) ∷ [];
}

-- the commands below `json`, one of which must follow it
unfoldable pub json_line : App
json_line = record {
  top = record (new_shape (codes "json")) { is_leaf = false; subcommand_required = true };
  subs = leaf (codes "report") (report_rules ++ unit_rules) ∷ leaf
      (codes "sweep") ((sweep_rules ++ case_rule ∷ []) ++ scale_rules)
      ∷ leaf (codes "predict") prediction_rules ∷ leaf (codes "when") start_rules ∷ [];
}

-- the words from `json` on, if it follows the program's name
abbrev pub json_words : List Text → Option (List Text)
json_words [] = None
json_words (program ∷ []) = None
json_words (program ∷ word ∷ more) = if bytes_eq word (codes "json") then Some (word ∷ more) else None

-- the names of the commands, and of those below `json`
abbrev pub IsCommand : Text → Type 0
IsCommand name = (name ≡ codes "predict") ⊎ ((name ≡ codes "when") ⊎ ((name ≡ codes "json")
    ⊎ ((name ≡ codes "advise") ⊎ ((name ≡ codes "show") ⊎ (name ≡ codes "chart")))))

abbrev pub IsDocument : Text → Type 0
IsDocument name = (name ≡ codes "report") ⊎ ((name ≡ codes "sweep")
    ⊎ ((name ≡ codes "predict") ⊎ (name ≡ codes "when")))
