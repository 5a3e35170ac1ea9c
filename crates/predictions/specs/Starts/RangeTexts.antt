-- The ranges over starts as lines. This project's own.
use Rattle.std.specs.Prelude.{ℕ, List, [], ◌∷◌, ◌++◌, codes, Option, None, Some}
use Rattle.predictions.specs.Starts.Ranges.{MigrationNumbers, RangesOfStarts}
use Rattle.predictions.specs.Quantities.{bytes_text, time_text}
use Rattle.sweep_report.specs.Lines.{field, line}

-- how many starts there are, and from how many the migration is known, converges, and keeps its limit
abbrev pub counts_line : RangesOfStarts → List ℕ
counts_line ranges =
    line (field (codes "starts: ") ranges.count ∷ field (codes ", known: ") ranges.known ∷ field
    (codes ", converging: ") ranges.converging
    ∷ field (codes ", limit kept: ") ranges.kept ∷ [])

-- from the least to the greatest
unfoldable pub bytes_span : ℕ → ℕ → List ℕ
bytes_span least greatest = bytes_text least ++ (codes " to " ++ bytes_text greatest)

unfoldable pub time_span : ℕ → ℕ → List ℕ
time_span least greatest = time_text least ++ (codes " to " ++ time_text greatest)

-- what a migration costs from the known starts, at least and at most
abbrev pub spans_line : MigrationNumbers → MigrationNumbers → List ℕ
spans_line least greatest =
    line (codes "over known starts: sent " ∷ bytes_span least.bytes greatest.bytes ∷ codes ", time "
    ∷ time_span least.time greatest.time ∷ codes ", downtime " ∷ time_span least.downtime greatest.downtime ∷ [])

abbrev pub ranges_text : Option RangesOfStarts → List ℕ
ranges_text None = []
ranges_text (Some ranges) = counts_line ranges ++ spans_line ranges.least ranges.greatest
