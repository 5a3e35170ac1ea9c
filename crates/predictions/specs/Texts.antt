-- A prediction as lines. This project's own.
use Rattle.std.specs.Prelude.{ℕ, nat_lt, not, Bool, if◌then◌else◌, List, [], ◌∷◌, ◌++◌, codes}
use Rattle.std.specs.Prelude.{Option, None, Some}
use Rattle.predictions.specs.Agreements.{sure_kept, sure_verdict, withstands}
use Rattle.predictions.specs.Agreements.Texts.{converging_words, kept_words}
use Rattle.predictions.specs.Courses.Ends.{converges}
use Rattle.predictions.specs.Predictions.{GuestPrediction, MigrationCost, verdict_word}
use Rattle.predictions.specs.Quantities.{bytes_text, error_text, time_text}
use Rattle.predictions.specs.Redrawn.Errors.{SampleErrors}
use Rattle.predictions.specs.declared.agreement.verdicts.Agreement.{Agreement}
use Rattle.predictions.specs.declared.course.CourseEnd.{CourseEnd}
use Rattle.predictions.specs.declared.course.CourseEnd.TheVariants as endings
use Rattle.predictions.specs.declared.course.Manner.{Manner}
use Rattle.predictions.specs.declared.course.Manner.TheVariants as manners
use Rattle.predictions.specs.declared.verdict.Verdict.{Verdict}
use Rattle.sweep_report.specs.Lines.{field, line}

-- why the plan ends if more than few pages are left
abbrev pub ending : CourseEnd → List ℕ
ending endings.Few = []
ending endings.Fits = []
ending endings.Fast = codes "; the guest writes faster than the link sends"
ending endings.Rounds = codes "; all rounds that are allowed are done"
ending endings.Looks = codes "; 2,000 looks are done"
ending endings.Cut = codes "; the trace ends first"
ending endings.Level = codes "; the trace ends first, and the lists did not get shorter"

-- what a plan is a number of
abbrev pub steps_word : Manner → List ℕ
steps_word manners.Looks = codes "; looks: "
steps_word manners.Rounds = codes "; rounds: "

-- why the plan ends, and after how many rounds or looks
abbrev pub ending_words : Manner → CourseEnd → ℕ → List ℕ
ending_words manner end steps = ending end ++ field (steps_word manner) steps

abbrev pub verdict : Bool → List ℕ
verdict is_kept = if is_kept then codes ", kept" else codes ", not kept"

-- an answer, how sure it is, and why the plan ends
abbrev pub verdict_line : Agreement → Verdict → GuestPrediction → List ℕ
verdict_line a answer p = line (codes "converges: " ∷ verdict_word answer ∷ converging_words a
    ∷ ending_words p.manner p.ending p.cost.steps ∷ [])

-- the line on the downtime, beside its limit, whether that is kept, and how sure that is
abbrev pub downtime_line : ℕ → Agreement → Verdict → ℕ → List ℕ
downtime_line limit a kept downtime = line (codes "downtime: " ∷ time_text downtime ∷ codes ", limit: "
    ∷ time_text limit ∷ codes ", kept: " ∷ verdict_word kept ∷ kept_words a ∷ [])

-- the line on the total time
abbrev pub time_line : ℕ → List ℕ
time_line time = codes "total time: " ++ (time_text time ++ 10 ∷ [])

-- what a migration costs, and whether it keeps its limit
abbrev pub cost_lines : ℕ → Agreement → Verdict → MigrationCost → List ℕ
cost_lines limit a kept cost = time_line cost.time ++ (line (codes "sent: " ∷ bytes_text cost.bytes ∷ [])
    ++ downtime_line limit a kept cost.downtime)

-- what a migration will be
abbrev pub facts_text : ℕ → Agreement → GuestPrediction → Option SampleErrors → List ℕ
facts_text limit a p errors =
    verdict_line a (sure_verdict a p) p ++ cost_lines limit a (sure_kept limit a p.cost errors) p.cost

-- a line, if something holds
abbrev pub line_if : Bool → List ℕ → List ℕ
line_if holds words = if holds then words ++ 10 ∷ [] else []

-- what an end other than `few` says of the downtime
abbrev pub end_warning : CourseEnd → List ℕ
end_warning endings.Few = []
end_warning endings.Fits = []
end_warning endings.Fast =
    codes "warning: the plan ends with `fast`, so nothing bounds the downtime; give more of the link"
end_warning endings.Rounds =
    codes "warning: the plan ends with `rounds`, so nothing bounds the downtime; allow more rounds"
end_warning endings.Looks =
    codes "warning: the plan ends with `looks`; a hypervisor goes on, and takes longer; give more of the link"
end_warning endings.Cut =
    codes "warning: the plan ends with `cut`; a hypervisor goes on, and takes longer; give more of the link"
end_warning endings.Level =
    codes "warning: the plan ends with `level`; a hypervisor goes on, and takes longer; give more of the link"

-- what speaks against the prediction
abbrev pub warnings : GuestPrediction → List ℕ
warnings p = line_if (nat_lt p.left 100) (codes "warning: fewer than 100 pages decided the stop; chance moves it")
    ++ line_if (not (converges p.ending)) (end_warning p.ending)

-- how far chance moves the prediction, if pages were sampled
abbrev pub errors_line : Option SampleErrors → List ℕ
errors_line None = []
errors_line (Some errors) = line (codes "standard errors: sent " ∷ bytes_text errors.bytes ∷ codes ", time "
    ∷ error_text errors.time ∷ codes ", downtime " ∷ error_text errors.downtime ∷ [])

-- a warning that the plan keeps the limit, but not with two standard errors of the downtime
abbrev pub doubt_line : ℕ → MigrationCost → Option SampleErrors → List ℕ
doubt_line limit cost errors =
    line_if (not (withstands limit cost errors)) (codes "warning: the limit is kept by less than two standard errors")

-- a prediction of a migration that ends within the trace
abbrev pub known_text : ℕ → Agreement → GuestPrediction → Option SampleErrors → List ℕ
known_text limit a p errors =
    facts_text limit a p errors ++ (errors_line errors ++ (doubt_line limit p.cost errors ++ warnings p))

-- all that is known of a migration if the trace, which goes on for so many microseconds, ends before it
abbrev pub unknown_text : ℕ → List ℕ
unknown_text recorded = codes "converges: unknown, the trace ends before the migration does; record longer\n"
    ++ line (codes "total time: more than " ∷ time_text recorded ∷ [])

abbrev pub prediction_text : ℕ → Agreement → GuestPrediction → Option SampleErrors → List ℕ
prediction_text limit a p errors = if p.cost.is_late then unknown_text p.recorded else known_text limit a p errors
