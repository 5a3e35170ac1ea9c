use Rattle.std.proofs.Common.{◌≡◌, List, [], ap, map, string_bytes, subst, sym, ◌∙◌}
use Rattle.clap.specs.Faults.{fault_of, is_simple_and_free}
use Rattle.clap.specs.Kinds.{HasKind}
use Rattle.clap.specs.Simple.{App}
use Rattle.clap.specs.Walk.{Text}
use Rattle.clap.specs.Words.{found_of, rows_of}
use Rattle.job_commands.specs.Commands.{precopy_line}
use Rattle.job_commands.proofs.HelpLemmas.{command_is_known}
use Rattle.job_commands.proofs.LineLemmas.{asks, command_met, fails_by_kind, line_is_free, not_taken, refuses}
use Rattle.job_commands.proofs.command.job_of.Goals as goal

pub told-requires : goal.told-requires
told-requires c =
    let words : List Text = map string_bytes c.args.words.now in
    let P : App → Type 0 = λ line. HasKind (fault_of line words) c.in-Err.error in
    let is = c.in_ok-commands.ensures in
    fails_by_kind precopy_line words c.in-Err.error c.refusal_of.result
    (subst P is (c.in-Err.ensures.kinds (ap is_simple_and_free is ∙ line_is_free))) c.refusal_of.ensures

pub command_job-requires : goal.command_job-requires
command_job-requires c =
    let words : List Text = map string_bytes c.args.words.now in
    let is = c.in_ok-commands.ensures in
    let taken : fault_of precopy_line words ≡ [] = ap (λ (line : App). fault_of line words) (sym is)
    ∙ c.in-Ok.ensures.kinds (ap is_simple_and_free is ∙ line_is_free) in
    command_is_known words c.in-Some.name.now _ taken (command_met _ words c.in-Ok.matches c.in-Some.name.now
    (rows_of (found_of c.in-Some.options.now)) is c.in-Ok.ensures.matches c.in-Some.ensures.name
    c.in-Some.ensures.rows)

pub returns-in-Some-clause-made : goal.returns-in-Some-clause-made
returns-in-Some-clause-made c =
    let words : List Text = map string_bytes c.args.words.now in
    let is = c.in_ok-commands.ensures in
    let taken : fault_of precopy_line words ≡ [] = ap (λ (line : App). fault_of line words) (sym is)
    ∙ c.in-Ok.ensures.kinds (ap is_simple_and_free is ∙ line_is_free) in
    let command = command_met _ words c.in-Ok.matches c.in-Some.name.now (rows_of (found_of c.in-Some.options.now)) is
    c.in-Ok.ensures.matches c.in-Some.ensures.name c.in-Some.ensures.rows in
    asks words c.command_job.result c.in-Some.name.now _ taken command c.command_job.ensures.made

pub returns-in-Some-clause-failed : goal.returns-in-Some-clause-failed
returns-in-Some-clause-failed c =
    let words : List Text = map string_bytes c.args.words.now in
    let is = c.in_ok-commands.ensures in
    let taken : fault_of precopy_line words ≡ [] = ap (λ (line : App). fault_of line words) (sym is)
    ∙ c.in-Ok.ensures.kinds (ap is_simple_and_free is ∙ line_is_free) in
    let command = command_met _ words c.in-Ok.matches c.in-Some.name.now (rows_of (found_of c.in-Some.options.now)) is
    c.in-Ok.ensures.matches c.in-Some.ensures.name c.in-Some.ensures.rows in
    refuses words c.command_job.result c.in-Some.name.now _ taken command c.command_job.ensures.refused

pub returns-clause-made : goal.returns-clause-made
returns-clause-made c =
    let words : List Text = map string_bytes c.args.words.now in
    let is = c.in_ok-commands.ensures in
    let taken : fault_of precopy_line words ≡ [] = ap (λ (line : App). fault_of line words) (sym is)
    ∙ c.in-Ok.ensures.kinds (ap is_simple_and_free is ∙ line_is_free) in
    absurd (not_taken _ words c.in-Ok.matches is c.in-Ok.ensures.matches c.in-None.ensures.variant taken)
