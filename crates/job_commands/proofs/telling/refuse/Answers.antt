use Rattle.std.proofs.Common.{refl, string_bytes, subst, sym}
use Rattle.job_commands.specs.Ends.{IsHelpText}
use Rattle.job_commands.specs.declared.command.WordsError.{WordsError}
use Rattle.job_commands.proofs.telling.refuse.Goals as goal

pub returns-in-Help-clause-kept : goal.returns-in-Help-clause-kept
returns-in-Help-clause-kept g c none =
    let text = string_bytes c.in-Help.text in
    absurd (none text (subst (λ (e : WordsError). IsHelpText e text) (sym c.in-Help.is) refl))
