-- What is enough for the limit of a migration, as an answer and as lines. This project's own.
use Rattle.std.specs.Prelude.{ℕ, Bool, true, false, if◌then◌else◌, ◌&&◌, ◌||◌, not, is_some, List, [], ◌++◌, codes}
use Rattle.predictions.specs.Agreements.{sure_kept, sure_verdict}
use Rattle.predictions.specs.Remedies.Texts.{remedies_text}
use Rattle.predictions.specs.declared.remedies.finding.Remedies.{Remedies}
use Rattle.predictions.specs.declared.verdict.Verdict.{Verdict}
use Rattle.predictions.specs.declared.verdict.Verdict.TheVariants as verdicts
use Rattle.trace_views.specs.declared.enough.Enough.{Enough}
use Rattle.trace_views.specs.declared.enough.Enough.TheVariants as answers
use Rattle.trace_views.specs.declared.outlook.Outlook.{Outlook}

-- an amount is found that is enough
abbrev pub finds_some : Remedies → Bool
finds_some r = (is_some r.link || is_some r.downtime) || is_some r.speed

-- whether an answer is yes
abbrev pub is_yes : Verdict → Bool
is_yes verdicts.Yes = true
is_yes verdicts.No = false
is_yes verdicts.Unknown = false
is_yes verdicts.Uncertain = false

-- whether a migration surely converges and keeps its limit
abbrev pub is_sure : ℕ → Outlook → Bool
is_sure limit outlook = is_yes (sure_verdict outlook.agreement outlook.prediction)
    && is_yes (sure_kept limit outlook.agreement outlook.prediction.cost outlook.errors)

-- What is asked is enough if that is sure, or else one of the amounts that are found, or nothing that was tried. Of
-- what is asked it is unknown if the trace ends before the migration does; amounts may be found then too. If only its
-- plan keeps the limit, that is uncertain.
abbrev pub answer_of : Bool → Remedies → Enough
answer_of sure r = if sure then answers.Asked else (if not r.ending.ends then answers.Unknown
    else (if r.is_kept then answers.Uncertain
    else (if finds_some r then answers.Other else answers.Nothing)))

abbrev pub enough_word : Enough → List ℕ
enough_word answers.Asked = codes "asked"
enough_word answers.Other = codes "other"
enough_word answers.Nothing = codes "nothing"
enough_word answers.Unknown = codes "unknown"
enough_word answers.Uncertain = codes "uncertain"

abbrev pub enough_line : Enough → List ℕ
enough_line answers.Asked = codes "enough: what is asked; by its plan alone also one of these, changed alone\n"
enough_line answers.Other = codes "enough: by its plan alone, one of these, changed alone\n"
enough_line answers.Nothing = codes "enough: nothing that was tried\n"
enough_line answers.Unknown = codes "enough: unknown, since the trace ends before the migration does\n"
enough_line answers.Uncertain = codes "enough: uncertain; give more of the link, or a longer downtime\n"

-- no amount is offered of what is uncertain
abbrev pub offers : Enough → Bool
offers answers.Asked = true
offers answers.Other = true
offers answers.Nothing = true
offers answers.Unknown = true
offers answers.Uncertain = false

-- the answer, and each amount that is enough
abbrev pub enough_text : Bool → Remedies → List ℕ
enough_text sure r = enough_line (answer_of sure r) ++ (if offers (answer_of sure r) then remedies_text r else [])
