-- A report for a terminal, in ticks and pages: what the trace is, its windows, its hot pages, and the rounds and the
-- end of a plan. Bars stand beside the rows. This project's own.
use Rattle.std.specs.Prelude.{◌≡◌, ℕ, ◌-◌, List, [], ◌∷◌, ◌++◌, length, codes}
use Rattle.std.specs.List.{flat_map, enumerate_from}
use Rattle.migration_model.specs.Rates.{MigrationSettings, word_of}
use Rattle.migration_model.specs.Rounds.{MigrationPlan, PlannedRound, total_of}
use Rattle.migration_model.specs.Windows.{WindowRow, WorkingSets}
use Rattle.sweep_report.specs.Lines.{field}
use Rattle.report_pictures.specs.Bars.{round_key, round_parts, window_key, window_parts}
use Rattle.report_pictures.specs.Columns.{most_of, names_text, row_text, widths_of}
use Rattle.report_pictures.specs.HotStrips.{spots_text}
use Rattle.view_kinds.specs.declared.style.Style.{Style}

unfoldable pub trace_words : ℕ → ℕ → ℕ → List ℕ
trace_words pages size writes = field (codes "trace: ") pages ++ (field (codes " pages of ") size
    ++ (field (codes " bytes, ") writes ++ codes " writes\n"))

-- the table of windows
abbrev pub window_names : List (List ℕ)
window_names = codes "window" ∷ codes "writes" ∷ codes "pages" ∷ codes "again" ∷ codes "fresh" ∷ []

abbrev pub window_numbers : WindowRow → List ℕ
window_numbers row = row.number ∷ row.writes ∷ row.pages ∷ row.again ∷ row.fresh ∷ []

abbrev pub window_mosts : List WindowRow → List ℕ
window_mosts rows = most_of (λ (row : WindowRow). row.number) rows ∷ most_of (λ (row : WindowRow). row.writes) rows
    ∷ most_of (λ (row : WindowRow). row.pages) rows ∷ most_of (λ (row : WindowRow). row.again) rows
    ∷ most_of (λ (row : WindowRow). row.fresh) rows ∷ []

abbrev pub window_widths : List WindowRow → List ℕ
window_widths rows = widths_of window_names (window_mosts rows)

abbrev pub window_rows : Style → List ℕ → ℕ → List WindowRow → List ℕ
window_rows style widths most rows =
    flat_map (λ row. row_text style widths most (window_numbers row) (window_parts row)) rows

abbrev pub windows_with : Style → List ℕ → ℕ → List WindowRow → List ℕ
windows_with style widths most rows = names_text widths window_names ++ (10 ∷ []
    ++ (window_rows style widths most rows ++ 10 ∷ []))

unfoldable pub windows_table : Style → List WindowRow → List ℕ
windows_table style rows =
    windows_with style (window_widths rows) (most_of (λ (row : WindowRow). row.pages) rows) rows

unfoldable pub windows_text : Style → ℕ → List WindowRow → List ℕ
windows_text style ticks rows = field (codes "windows of ") ticks ++ (codes " ticks; pages:"
    ++ (window_key style.colors ++ windows_table style rows))

-- how many pages are hot, and then where they lie
unfoldable pub hot_count : ℕ → ℕ → List ℕ
hot_count windows count =
    field (codes "hot pages, in ") windows ++ (field (codes " windows or more: ") count ++ 10 ∷ [])

abbrev pub hot_text : ℕ → ℕ → List ℕ → List ℕ
hot_text windows count spots = hot_count windows count ++ (spots ++ 10 ∷ [])

-- the table of rounds
abbrev pub round_names : List (List ℕ)
round_names = codes "round" ∷ codes "from" ∷ codes "to" ∷ codes "rate" ∷ codes "pages" ∷ codes "sent"
    ∷ codes "dirtied" ∷ []

abbrev pub round_numbers : ℕ → PlannedRound → List ℕ
round_numbers number round = number ∷ round.from ∷ round.to ∷ round.rate ∷ length round.pages ∷ length round.sent
    ∷ round.dirtied ∷ []

abbrev pub round_mosts : List PlannedRound → List ℕ
round_mosts rounds = (length rounds - 1) ∷ most_of (λ (round : PlannedRound). round.from) rounds
    ∷ most_of (λ (round : PlannedRound). round.to) rounds ∷ most_of (λ (round : PlannedRound). round.rate) rounds
    ∷ most_of (λ (round : PlannedRound). length round.pages) rounds
    ∷ most_of (λ (round : PlannedRound). length round.sent) rounds
    ∷ most_of (λ (round : PlannedRound). round.dirtied) rounds ∷ []

abbrev pub round_widths : List PlannedRound → List ℕ
round_widths rounds = widths_of round_names (round_mosts rounds)

abbrev pub round_rows : Style → List ℕ → ℕ → List PlannedRound → List ℕ
round_rows style widths most rounds =
    flat_map (λ at. row_text style widths most (round_numbers at.0 at.1) (round_parts at.1)) (enumerate_from 0 rounds)

abbrev pub rounds_with : Style → List ℕ → ℕ → List PlannedRound → List ℕ
rounds_with style widths most rounds = names_text widths round_names ++ (10 ∷ []
    ++ (round_rows style widths most rounds ++ 10 ∷ []))

unfoldable pub rounds_table : Style → List PlannedRound → List ℕ
rounds_table style rounds =
    rounds_with style (round_widths rounds) (most_of (λ (round : PlannedRound). length round.pages) rounds) rounds

unfoldable pub rounds_text : Style → List PlannedRound → List ℕ
rounds_text style rounds = codes "rounds, at a rate in pages per 1,000 ticks; pages:"
    ++ (round_key style.colors ++ rounds_table style rounds)

-- the end of a plan: why and when the guest stops, and then what is left, how long that takes, and all that is sent
unfoldable pub reason_words : MigrationPlan → List ℕ
reason_words plan = codes "stop: " ++ (word_of plan.reason ++ field (codes ", at tick ") plan.stop)

unfoldable pub left_words : MigrationPlan → List ℕ
left_words plan = field (codes "\nleft: ") (length plan.last) ++ (field (codes " pages\ndowntime: ") plan.down
    ++ (field (codes " ticks\nsent in all: ") (total_of plan) ++ codes " pages\n"))

unfoldable pub stop_words : MigrationPlan → List ℕ
stop_words plan = reason_words plan ++ left_words plan

-- This is a whole report. Of the runs of the hot pages nothing is said: they are only tested.
pub record IsScreen (style : Style) (pages size writes : ℕ) (settings : MigrationSettings) (sets : WorkingSets)
    (plan : MigrationPlan) (text : List ℕ) : Type 0 where
  pub lines : List ℕ
  pub text_is : text ≡ trace_words pages size writes ++ (10 ∷ [] ++ (windows_text style settings.window sets.windows
      ++ (hot_text settings.hot (length sets.hot) (spots_text style.width pages sets.hot lines)
      ++ (rounds_text style plan.rounds ++ stop_words plan))))
