-- The shares of a link as a line. This project's own.
use Rattle.std.specs.Prelude.{ℕ, ◌-◌, ◌==◌, if◌then◌else◌, Bool, true, false, List, [], ◌∷◌, ◌++◌, codes}
use Rattle.std.specs.Prelude.{Option, None, Some}
use Rattle.std.specs.Fmt.{decimal}
use Rattle.predictions.specs.Predictions.{verdict_word}
use Rattle.predictions.specs.declared.shares.share.LinkShare.{LinkShare}
use Rattle.predictions.specs.declared.verdict.Verdict.{Verdict}
use Rattle.predictions.specs.declared.verdict.Verdict.TheVariants as verdicts
use Rattle.sweep_report.specs.Lines.{field, line}

abbrev pub is_known : Verdict → Bool
is_known verdicts.Yes = true
is_known verdicts.No = true
is_known verdicts.Unknown = false
is_known verdicts.Uncertain = true

-- what is told of these shares
abbrev pub share_words : Verdict → List ℕ
share_words verdicts.Yes = codes "share of the link: converges at "
share_words verdicts.No = codes "share of the link: does not converge at "
share_words verdicts.Unknown = codes "share of the link: unknown at "
share_words verdicts.Uncertain = codes "share of the link: uncertain at "

-- from the least of them, if that is not all of the link
abbrev pub from_words : ℕ → List ℕ
from_words share = if share == 100 then [] else decimal share ++ codes " to "

-- the verdict at the share below them, if one is tried
abbrev pub below_words : ℕ → Option Verdict → List ℕ
below_words share None = []
below_words share (Some other) = field (codes "; at ") (share - 1) ++ (codes " " ++ verdict_word other)

abbrev pub share_line : LinkShare → List ℕ
share_line found = line (share_words found.verdict ∷ from_words found.share ∷ codes "100 per cent"
    ∷ below_words found.share found.below ∷ [])

-- there is a line if the verdict at all of the link is known
abbrev pub share_text : LinkShare → List ℕ
share_text found = if is_known found.verdict then share_line found else []
