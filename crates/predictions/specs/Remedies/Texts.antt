-- What keeps a limit, and what ends a migration within the trace, as lines: an alternative each. This project's own.
use Rattle.std.specs.Prelude.{ℕ, List, [], ◌∷◌, ◌++◌, Option, None, Some, codes}
use Rattle.predictions.specs.declared.remedies.ending.Ending.{Ending}
use Rattle.predictions.specs.declared.remedies.finding.Remedies.{Remedies}
use Rattle.sweep_report.specs.Lines.{field, line}

-- the line on an amount, between some words, if there is one
abbrev pub amount_line : List ℕ → Option ℕ → List ℕ → List ℕ
amount_line before None after = []
amount_line before (Some amount) after = line (field before amount ∷ after ∷ [])

-- the lines on the link and the start that end a migration within the trace, in words of options
unfoldable pub ending_text : Ending → List ℕ
ending_text e = amount_line (codes "enough to end within the trace: --link ") e.link (codes "Kbit")
    ++ amount_line (codes "enough to end within the trace: --start ") e.start (codes "")

-- the lines on the link and the downtime, in words of options, on the guest's speed, and on the end
abbrev pub remedies_text : Remedies → List ℕ
remedies_text r = amount_line (codes "enough: --link ") r.link (codes "Kbit")
    ++ (amount_line (codes "enough: --downtime ") r.downtime (codes "us")
    ++ (amount_line (codes "enough: the guest slowed to ") r.speed (codes " per cent of its speed")
    ++ ending_text r.ending))
