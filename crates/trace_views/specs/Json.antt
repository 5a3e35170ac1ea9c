-- Reports and sweeps as JSON documents: the tokens of each, in order. The names are those of the texts.
use Rattle.std.specs.Prelude.{ℕ, ◌+◌, ◌*◌, ◌/◌, ◌%◌, ◌^◌, Bool, List, [], ◌∷◌, ◌++◌, length, codes}
use Rattle.std.specs.Prelude.{Option, None, Some}
use Rattle.std.specs.Fmt.{decimal}
use Rattle.std.specs.List.{flat_map, enumerate_from}
use Rattle.predictions.specs.Units.Scales.{TraceScale, bytes_of, micros_of}
use Rattle.json.specs.Token.{Token, begin_object, end_object, begin_array, end_array, key, string, number, boolean}
use Rattle.json.specs.Print.{print}
use Rattle.migration_model.specs.Rates.{MigrationSettings, word_of}
use Rattle.migration_model.specs.Rounds.{PlannedRound, MigrationPlan, total_of}
use Rattle.migration_model.specs.Sweeps.{PlanOutcome, SweepLine, best_of}
use Rattle.migration_model.specs.Windows.{WindowRow, WorkingSets}

-- a number, in decimal digits
abbrev pub number_token : ℕ → Token
number_token n = number (decimal n)

-- a member whose value is a number, a text, or true or false
unfoldable pub number_member : List ℕ → ℕ → List Token
number_member name n = key name ∷ number_token n ∷ []

unfoldable pub text_member : List ℕ → List ℕ → List Token
text_member name text = key name ∷ string text ∷ []

unfoldable pub flag_member : List ℕ → Bool → List Token
flag_member name flag = key name ∷ boolean flag ∷ []

-- the last six decimal digits of a number; 48 is `0`
unfoldable pub six_digits : ℕ → List ℕ
six_digits n = (48 + n / 100_000) ∷ (48 + n / 10_000 % 10) ∷ (48 + n / 1_000 % 10) ∷ (48 + n / 100 % 10)
    ∷ (48 + n / 10 % 10) ∷ (48 + n % 10) ∷ []

-- millionths as a number, with six digits after the point (46)
unfoldable pub millionths_text : ℕ → List ℕ
millionths_text n = decimal (n / 1_000_000) ++ 46 ∷ six_digits (n % 1_000_000)

-- a member whose value is a time in seconds, given in microseconds, or another number of millionths
unfoldable pub seconds_member : List ℕ → ℕ → List Token
seconds_member name micros = key name ∷ number (millionths_text micros) ∷ []

-- an object with these members, and an array of these items
abbrev pub object_of : List (List Token) → List Token
object_of members = begin_object ∷ (flat_map (λ m. m) members ++ end_object ∷ [])

abbrev pub array_of : List Token → List Token
array_of items = begin_array ∷ (items ++ end_array ∷ [])

-- a member with a value of several tokens
abbrev pub member_of : List ℕ → List Token → List Token
member_of name value = key name ∷ value

-- ---- the parts of a report

-- the sizes of a trace
abbrev pub trace_object : ℕ → ℕ → ℕ → List Token
trace_object pages size writes =
    object_of (number_member (codes "pages") pages ∷ number_member (codes "size") size ∷ number_member
    (codes "writes") writes ∷ [])

-- what pages stand for
abbrev pub page_members : TraceScale → List (List Token)
page_members scale =
    number_member (codes "page_bytes") scale.page ∷ number_member (codes "sampled_pages") scale.sampled
    ∷ number_member (codes "guest_pages") scale.guest ∷ []

-- what ticks, windows of `length` ticks, and pages stand for, if that is known
abbrev pub units_object : TraceScale → ℕ → List Token
units_object scale length =
    object_of (seconds_member (codes "tick_seconds") scale.tick ∷ seconds_member
    (codes "window_seconds") (micros_of scale length) ∷ page_members scale)

abbrev pub units_member : Option TraceScale → ℕ → List Token
units_member None length = []
units_member (Some scale) length = member_of (codes "units") (units_object scale length)

-- the bytes of the guest that are written in a window, if they are known
abbrev pub window_units : Option TraceScale → WindowRow → List (List Token)
window_units None row = []
window_units (Some scale) row = number_member (codes "bytes") (bytes_of scale row.pages) ∷ []

abbrev pub window_object : Option TraceScale → WindowRow → List Token
window_object scale row =
    object_of (number_member (codes "window") row.number ∷ number_member (codes "writes") row.writes ∷ number_member
    (codes "pages") row.pages
    ∷ number_member (codes "again") row.again ∷ number_member (codes "fresh") row.fresh ∷ window_units scale row)

-- the setting that makes a page hot, and the hot pages
abbrev pub hot_object : ℕ → List ℕ → List Token
hot_object hot pages =
    object_of (number_member (codes "windows") hot ∷ member_of (codes "pages")
    (array_of (flat_map (λ page. number_token page ∷ []) pages)) ∷ [])

-- the times, the bytes and the share of the link of a round, if they are known; `max` is the rate of the link
abbrev pub round_measures : TraceScale → ℕ → PlannedRound → List (List Token)
round_measures scale max round =
    seconds_member (codes "from_seconds") (micros_of scale round.from) ∷ seconds_member
    (codes "to_seconds") (micros_of scale round.to)
    ∷ number_member (codes "sent_bytes") (bytes_of scale (length round.sent)) ∷ number_member
    (codes "dirtied_bytes") (bytes_of scale round.dirtied)
    ∷ seconds_member (codes "link_share") (round.rate * 1_000_000 / max) ∷ []

abbrev pub round_units : Option TraceScale → ℕ → PlannedRound → List (List Token)
round_units None max round = []
round_units (Some scale) max round = round_measures scale max round

-- a round of a plan, by its number
abbrev pub round_object : Option TraceScale → ℕ → ℕ → PlannedRound → List Token
round_object scale max n round =
    object_of (number_member (codes "round") n ∷ number_member (codes "from") round.from ∷ number_member
    (codes "to") round.to
    ∷ number_member (codes "rate") round.rate ∷ number_member (codes "pages") (length round.pages)
    ∷ number_member (codes "sent") (length round.sent) ∷ number_member (codes "dirtied") round.dirtied
    ∷ round_units scale max round)

-- the rounds of a plan, numbered from the first
abbrev pub round_objects : Option TraceScale → ℕ → List PlannedRound → List Token
round_objects scale max rounds = flat_map (λ at. round_object scale max at.0 at.1) (enumerate_from 0 rounds)

-- the times and the bytes of the end of a plan, if they are known
abbrev pub stop_measures : TraceScale → MigrationPlan → List (List Token)
stop_measures scale plan =
    seconds_member (codes "at_seconds") (micros_of scale plan.stop) ∷ number_member
    (codes "bytes") (bytes_of scale (length plan.last))
    ∷ seconds_member (codes "down_seconds") (micros_of scale plan.down) ∷ number_member
    (codes "total_bytes") (bytes_of scale (total_of plan)) ∷ []

abbrev pub stop_units : Option TraceScale → MigrationPlan → List (List Token)
stop_units None plan = []
stop_units (Some scale) plan = stop_measures scale plan

-- the end of a plan
abbrev pub stop_object : Option TraceScale → MigrationPlan → List Token
stop_object scale plan =
    object_of (text_member (codes "why") (word_of plan.reason) ∷ number_member (codes "at") plan.stop ∷ number_member
    (codes "pages") (length plan.last)
    ∷ number_member (codes "down") plan.down ∷ number_member (codes "total") (total_of plan) ∷ stop_units scale plan)

-- the members of a report on working sets, and on a plan
abbrev pub sets_members : Option TraceScale → ℕ → WorkingSets → List Token
sets_members scale hot sets =
    member_of (codes "windows") (array_of (flat_map (window_object scale) sets.windows)) ++ member_of (codes "hot")
    (hot_object hot sets.hot)

abbrev pub plan_members : Option TraceScale → ℕ → MigrationPlan → List Token
plan_members scale max plan =
    member_of (codes "rounds") (array_of (round_objects scale max plan.rounds)) ++ member_of
    (codes "stop") (stop_object scale plan)

-- the facts of a report, in ticks and pages, and in times and bytes of the guest if they are known
abbrev pub report_object : ℕ → ℕ → ℕ → MigrationSettings → Option TraceScale → WorkingSets → MigrationPlan → List Token
report_object shift pages writes s scale sets plan =
    object_of (member_of (codes "trace") (trace_object pages (2 ^ shift) writes) ∷ units_member scale s.window
    ∷ sets_members scale s.hot sets ∷ plan_members scale s.max plan ∷ [])

-- ---- the parts of a sweep

-- the settings of a case
abbrev pub settings_members : MigrationSettings → List (List Token)
settings_members s =
    number_member (codes "min") s.min ∷ number_member (codes "max") s.max ∷ number_member (codes "inc") s.increment
    ∷ number_member (codes "threshold") s.threshold ∷ number_member (codes "limit") s.rounds ∷ flag_member
    (codes "skip") s.skip ∷ []

-- the sums of a case's plan
abbrev pub outcome_members : PlanOutcome → List (List Token)
outcome_members outcome =
    number_member (codes "rounds") outcome.rounds ∷ text_member (codes "stop") (word_of outcome.reason) ∷ number_member
    (codes "at") outcome.stop
    ∷ number_member (codes "down") outcome.down ∷ number_member (codes "total") outcome.total ∷ []

-- the times and the bytes of a case's plan, if they are known
abbrev pub outcome_units : Option TraceScale → PlanOutcome → List (List Token)
outcome_units None outcome = []
outcome_units (Some scale) outcome =
    seconds_member (codes "at_seconds") (micros_of scale outcome.stop) ∷ seconds_member
    (codes "down_seconds") (micros_of scale outcome.down)
    ∷ number_member (codes "total_bytes") (bytes_of scale outcome.total) ∷ []

-- a case, by its number
abbrev pub case_object : Option TraceScale → ℕ → SweepLine → List Token
case_object scale n line = object_of (number_member (codes "case") n ∷
    (settings_members line.settings ++ (outcome_members line.outcome ++ outcome_units scale line.outcome)))

-- the cases of a sweep, numbered from the first
abbrev pub case_objects : Option TraceScale → List SweepLine → List Token
case_objects scale lines = flat_map (λ at. case_object scale at.0 at.1) (enumerate_from 0 lines)

-- what ticks and pages stand for, if that is known
abbrev pub scale_object : TraceScale → List Token
scale_object scale = object_of (seconds_member (codes "tick_seconds") scale.tick ∷ page_members scale)

abbrev pub scale_member : Option TraceScale → List Token
scale_member None = []
scale_member (Some scale) = member_of (codes "units") (scale_object scale)

-- the number of the best case, if there is a case
abbrev pub best_member : List SweepLine → List Token
best_member [] = []
best_member (first ∷ others) = number_member (codes "best") (best_of (first ∷ others))

-- the facts of a sweep: its cases, and the best of them
abbrev pub sweep_object : Option TraceScale → List SweepLine → List Token
sweep_object scale lines = object_of (scale_member scale ∷ member_of (codes "cases")
    (array_of (case_objects scale lines)) ∷ best_member lines ∷ [])

-- ---- documents

-- the document of these tokens: one line
abbrev pub line_of : List Token → List ℕ
line_of tokens = print tokens ++ 10 ∷ []
