use Rattle.std.proofs.Common.{List, ap, map, string_bytes, subst, sym, ◌∙◌}
use Rattle.clap.specs.Faults.{fault_of, is_simple_and_free}
use Rattle.clap.specs.Kinds.{HasKind}
use Rattle.clap.specs.Simple.{App}
use Rattle.clap.specs.Walk.{Text}
use Rattle.job_commands.proofs.LineLemmas.{fails_by_kind}
use Rattle.move_schedules.specs.Words.{schedule_line}
use Rattle.move_schedules.proofs.WordLemmas.{line_is_free}
use Rattle.move_schedules.proofs.command.check_words.Goals as goal

pub returns-in-Ok-clause-asked : goal.returns-in-Ok-clause-asked
returns-in-Ok-clause-asked c =
    let words : List Text = map string_bytes c.args.words.now in
    let is = c.command_line.ensures in
    ap (λ (line : App). fault_of line words) (sym is) ∙ c.in-Ok.ensures.kinds (ap is_simple_and_free is ∙ line_is_free)

pub returns-clause-failed : goal.returns-clause-failed
returns-clause-failed c =
    let words : List Text = map string_bytes c.args.words.now in
    let P : App → Type 0 = λ line. HasKind (fault_of line words) c.in-Err.error in
    let is = c.command_line.ensures in
    fails_by_kind schedule_line words c.in-Err.error c.refusal_of.result
    (subst P is (c.in-Err.ensures.kinds (ap is_simple_and_free is ∙ line_is_free))) c.refusal_of.ensures
