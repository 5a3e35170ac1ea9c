use Rattle.std.proofs.Common.{◌≡◌, List, [], ap, map, string_bytes, subst, sym, ◌∙◌}
use Rattle.clap.specs.Faults.{fault_of, is_simple_and_free}
use Rattle.clap.specs.Kinds.{HasKind}
use Rattle.clap.specs.Simple.{App}
use Rattle.clap.specs.Walk.{Text}
use Rattle.clap.specs.Words.{found_of, rows_of}
use Rattle.job_commands.proofs.HelpLemmas.{command_is_known_on}
use Rattle.job_commands.proofs.LineLemmas.{command_met_on, not_taken_on}
use Rattle.view_commands.specs.Commands.{IsDocument, json_line}
use Rattle.view_commands.specs.Views.{AsksForDocument, RefusesDocument}
use Rattle.view_commands.proofs.LineFacts.{json_has_help, json_is_free, json_is_named, json_is_simple, json_requires}
use Rattle.view_commands.proofs.Parsing.{made_by, refused_at_once, refused_by}
use Rattle.view_commands.proofs.command.document_of.Goals as goal

pub returns-in-Err-clause-failed : goal.returns-in-Err-clause-failed
returns-in-Err-clause-failed c =
    let words : List Text = map string_bytes c.args.words.now in
    let P : App → Type 0 = λ line. HasKind (fault_of line words) c.in-Err.error in
    let is = c.in_ok-json_commands.ensures in
    refused_at_once json_line words RefusesDocument c.in-Err.error c.refusal_of.result
    (subst P is (c.in-Err.ensures.kinds (ap is_simple_and_free is ∙ json_is_free))) c.refusal_of.ensures

pub command_document-requires : goal.command_document-requires
command_document-requires c =
    let words : List Text = map string_bytes c.args.words.now in
    let is = c.in_ok-json_commands.ensures in
    let taken : fault_of json_line words ≡ [] = ap (λ (line : App). fault_of line words) (sym is)
    ∙ c.in-Ok.ensures.kinds (ap is_simple_and_free is ∙ json_is_free) in
    command_is_known_on IsDocument json_line json_is_named json_has_help words c.in-Some.name.now _ taken
    (command_met_on json_line json_is_simple _ words c.in-Ok.matches c.in-Some.name.now
    (rows_of (found_of c.in-Some.options.now)) is c.in-Ok.ensures.matches c.in-Some.ensures.name
    c.in-Some.ensures.rows)

pub returns-in-Some-clause-made : goal.returns-in-Some-clause-made
returns-in-Some-clause-made c =
    let words : List Text = map string_bytes c.args.words.now in
    let is = c.in_ok-json_commands.ensures in
    let taken : fault_of json_line words ≡ [] = ap (λ (line : App). fault_of line words) (sym is)
    ∙ c.in-Ok.ensures.kinds (ap is_simple_and_free is ∙ json_is_free) in
    let command = command_met_on json_line json_is_simple _ words c.in-Ok.matches c.in-Some.name.now
    (rows_of (found_of c.in-Some.options.now)) is c.in-Ok.ensures.matches c.in-Some.ensures.name
    c.in-Some.ensures.rows in
    made_by json_line words c.in-Some.name.now _ taken command
    (λ name rows asked. AsksForDocument name rows asked.view asked.scale) c.command_document.result
    c.command_document.ensures.made

pub returns-in-Some-clause-failed : goal.returns-in-Some-clause-failed
returns-in-Some-clause-failed c =
    let words : List Text = map string_bytes c.args.words.now in
    let is = c.in_ok-json_commands.ensures in
    let taken : fault_of json_line words ≡ [] = ap (λ (line : App). fault_of line words) (sym is)
    ∙ c.in-Ok.ensures.kinds (ap is_simple_and_free is ∙ json_is_free) in
    let command = command_met_on json_line json_is_simple _ words c.in-Ok.matches c.in-Some.name.now
    (rows_of (found_of c.in-Some.options.now)) is c.in-Ok.ensures.matches c.in-Some.ensures.name
    c.in-Some.ensures.rows in
    refused_by json_line words c.in-Some.name.now _ taken command RefusesDocument c.command_document.result
    c.command_document.ensures.refused

pub returns-clause-failed : goal.returns-clause-failed
returns-clause-failed c =
    let words : List Text = map string_bytes c.args.words.now in
    let is = c.in_ok-json_commands.ensures in
    let taken : fault_of json_line words ≡ [] = ap (λ (line : App). fault_of line words) (sym is)
    ∙ c.in-Ok.ensures.kinds (ap is_simple_and_free is ∙ json_is_free) in
    absurd (not_taken_on json_line json_is_simple json_requires _ words c.in-Ok.matches is c.in-Ok.ensures.matches
    c.in-None.ensures.variant taken)
