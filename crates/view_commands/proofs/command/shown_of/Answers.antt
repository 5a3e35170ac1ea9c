use Rattle.std.proofs.Common.{◌≡◌, List, [], ap, map, string_bytes, subst, sym, ◌∙◌}
use Rattle.clap.specs.Faults.{fault_of, is_simple_and_free}
use Rattle.clap.specs.Kinds.{HasKind}
use Rattle.clap.specs.Simple.{App}
use Rattle.clap.specs.Walk.{Text}
use Rattle.clap.specs.Words.{found_of, rows_of}
use Rattle.job_commands.proofs.HelpLemmas.{command_is_known_on}
use Rattle.job_commands.proofs.LineLemmas.{command_met_on, not_taken_on}
use Rattle.view_commands.specs.Commands.{IsCommand, view_line}
use Rattle.view_commands.specs.Views.{AsksForView, RefusesView}
use Rattle.view_commands.proofs.LineFacts.{view_has_help, view_is_free, view_is_named, view_is_simple, view_requires}
use Rattle.view_commands.proofs.Parsing.{made_by, refused_at_once, refused_by}
use Rattle.view_commands.proofs.command.shown_of.Goals as goal

pub returns-in-Err-clause-failed : goal.returns-in-Err-clause-failed
returns-in-Err-clause-failed c =
    let words : List Text = map string_bytes c.args.words.now in
    let P : App → Type 0 = λ line. HasKind (fault_of line words) c.in-Err.error in
    let is = c.in_ok-commands.ensures in
    refused_at_once view_line words RefusesView c.in-Err.error c.refusal_of.result
    (subst P is (c.in-Err.ensures.kinds (ap is_simple_and_free is ∙ view_is_free))) c.refusal_of.ensures

pub command_view-requires : goal.command_view-requires
command_view-requires c =
    let words : List Text = map string_bytes c.args.words.now in
    let is = c.in_ok-commands.ensures in
    let taken : fault_of view_line words ≡ [] = ap (λ (line : App). fault_of line words) (sym is)
    ∙ c.in-Ok.ensures.kinds (ap is_simple_and_free is ∙ view_is_free) in
    command_is_known_on IsCommand view_line view_is_named view_has_help words c.in-Some.name.now _ taken
    (command_met_on view_line view_is_simple _ words c.in-Ok.matches c.in-Some.name.now
    (rows_of (found_of c.in-Some.options.now)) is c.in-Ok.ensures.matches c.in-Some.ensures.name
    c.in-Some.ensures.rows)

pub returns-in-Some-clause-made : goal.returns-in-Some-clause-made
returns-in-Some-clause-made c =
    let words : List Text = map string_bytes c.args.words.now in
    let is = c.in_ok-commands.ensures in
    let taken : fault_of view_line words ≡ [] = ap (λ (line : App). fault_of line words) (sym is)
    ∙ c.in-Ok.ensures.kinds (ap is_simple_and_free is ∙ view_is_free) in
    let command = command_met_on view_line view_is_simple _ words c.in-Ok.matches c.in-Some.name.now
    (rows_of (found_of c.in-Some.options.now)) is c.in-Ok.ensures.matches c.in-Some.ensures.name
    c.in-Some.ensures.rows in
    made_by view_line words c.in-Some.name.now _ taken command
    (λ name rows asked. AsksForView c.args.is_terminal name rows asked.view asked.scale) c.command_view.result
    c.command_view.ensures.made

pub returns-in-Some-clause-failed : goal.returns-in-Some-clause-failed
returns-in-Some-clause-failed c =
    let words : List Text = map string_bytes c.args.words.now in
    let is = c.in_ok-commands.ensures in
    let taken : fault_of view_line words ≡ [] = ap (λ (line : App). fault_of line words) (sym is)
    ∙ c.in-Ok.ensures.kinds (ap is_simple_and_free is ∙ view_is_free) in
    let command = command_met_on view_line view_is_simple _ words c.in-Ok.matches c.in-Some.name.now
    (rows_of (found_of c.in-Some.options.now)) is c.in-Ok.ensures.matches c.in-Some.ensures.name
    c.in-Some.ensures.rows in
    refused_by view_line words c.in-Some.name.now _ taken command RefusesView c.command_view.result
    c.command_view.ensures.refused

pub returns-clause-failed : goal.returns-clause-failed
returns-clause-failed c =
    let words : List Text = map string_bytes c.args.words.now in
    let is = c.in_ok-commands.ensures in
    let taken : fault_of view_line words ≡ [] = ap (λ (line : App). fault_of line words) (sym is)
    ∙ c.in-Ok.ensures.kinds (ap is_simple_and_free is ∙ view_is_free) in
    absurd (not_taken_on view_line view_is_simple view_requires _ words c.in-Ok.matches is c.in-Ok.ensures.matches
    c.in-None.ensures.variant taken)
