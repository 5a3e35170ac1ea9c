-- The starts as a table, and the best and the worst of them. This project's own.
use Rattle.std.specs.Prelude.{ℕ, ◌-◌, ◌&&◌, not, if◌then◌else◌, List, [], ◌∷◌, ◌++◌, length, replicate, codes}
use Rattle.std.specs.Prelude.{Option, None, Some}
use Rattle.std.specs.Fmt.{decimal}
use Rattle.std.specs.List.{flat_map}
use Rattle.predictions.specs.Units.Scales.{TraceScale, micros_of}
use Rattle.predictions.specs.Starts.Costs.{CostAtStart}
use Rattle.predictions.specs.Predictions.{MigrationCost, kept_of}
use Rattle.predictions.specs.Quantities.{bytes_text, error_text, moment_text, time_text}
use Rattle.predictions.specs.Redrawn.Errors.{SampleErrors}
use Rattle.predictions.specs.Starts.Choices.{is_likely}
use Rattle.predictions.specs.declared.verdict.Verdict.{Verdict}
use Rattle.predictions.specs.declared.verdict.Verdict.TheVariants as verdicts
use Rattle.sweep_report.specs.Lines.{field}

-- words at the right end of a column of this width (32 is a blank)
abbrev pub right_in : ℕ → List ℕ → List ℕ
right_in width words = replicate (width - length words) 32 ++ words

-- whether the limit is kept, in words
abbrev pub mark_of : Verdict → List ℕ
mark_of verdicts.Yes = codes "kept"
mark_of verdicts.No = codes "not kept"
mark_of verdicts.Unknown = codes "unknown"
mark_of verdicts.Uncertain = codes "uncertain"

-- a column beside others: a blank, and words at the right end of this width
unfoldable pub cell_in : ℕ → List ℕ → List ℕ
cell_in width words = codes " " ++ right_in width words

-- what a migration costs, as columns
unfoldable pub cost_cells : MigrationCost → List ℕ
cost_cells cost = cell_in 13 (time_text cost.time) ++ (cell_in 13 (bytes_text cost.bytes)
    ++ (cell_in 13 (time_text cost.downtime) ++ (codes "  " ++ mark_of (kept_of cost))))

-- a start, and what the migration costs from there
abbrev pub start_row : TraceScale → CostAtStart → List ℕ
start_row scale at = cell_in 13 (decimal at.start) ++ (cell_in 13 (moment_text (micros_of scale at.start))
    ++ (cost_cells at.cost ++ 10 ∷ []))

abbrev pub start_rows : TraceScale → List CostAtStart → List ℕ
start_rows scale costs = flat_map (start_row scale) costs

-- the names of the columns
abbrev pub heading : List ℕ
heading = codes "          tick         start          time          sent      downtime\n"

-- one standard error of the downtime, beside it
abbrev pub down_spread : Option SampleErrors → List ℕ
down_spread None = []
down_spread (Some errors) = codes " +- " ++ error_text errors.downtime

-- a word on a limit that is kept, but not likely so
unfoldable pub doubt_words : ℕ → CostAtStart → List ℕ
doubt_words limit at =
    if at.cost.is_kept && not (is_likely limit at) then codes " by less than two standard errors" else []

-- how long the guest stands still from a chosen start, and whether the limit is kept
unfoldable pub chosen_downtime : ℕ → CostAtStart → List ℕ
chosen_downtime limit at = codes ", downtime " ++ (time_text at.cost.downtime ++ (down_spread at.errors
    ++ (codes ", " ++ (mark_of (kept_of at.cost) ++ (doubt_words limit at ++ 10 ∷ [])))))

-- what a migration costs from a chosen start
unfoldable pub chosen_cost : MigrationCost → List ℕ
chosen_cost cost = codes ": time " ++ (time_text cost.time ++ (codes ", sent " ++ bytes_text cost.bytes))

-- a chosen start
unfoldable pub chosen_text : TraceScale → ℕ → CostAtStart → List ℕ
chosen_text scale limit at = moment_text (micros_of scale at.start)
    ++ (field (codes ", --start ") at.start ++ (chosen_cost at.cost ++ chosen_downtime limit at))

-- the line of a chosen start, or of none
abbrev pub choice_line : TraceScale → ℕ → List ℕ → Option CostAtStart → List ℕ
choice_line scale limit name None = name ++ codes "none, since no migration ends within the trace; record longer\n"
choice_line scale limit name (Some at) = name ++ chosen_text scale limit at

abbrev pub starts_text_of : TraceScale → ℕ → List CostAtStart → Option CostAtStart → Option CostAtStart → List ℕ
starts_text_of scale limit costs best worst = heading ++ (start_rows scale costs
    ++ (choice_line scale limit (codes "best:  ") best ++ choice_line scale limit (codes "worst: ") worst))
