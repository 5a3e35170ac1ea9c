-- Why plans end, and what plans of these sums come to. This project's own.
use Rattle.std.specs.Prelude.{ℕ, ◌+◌, Bool, true, false, if◌then◌else◌, List, codes}
use Rattle.look_planner.specs.declared.parts.PlanEnd.{PlanEnd}
use Rattle.look_planner.specs.declared.parts.PlanEnd.TheVariants as looks
use Rattle.look_planner.specs.declared.sums.LookSums.{LookSums}
use Rattle.migration_model.specs.Rates.{StopReason, few_remain, rounds_done, too_fast}
use Rattle.migration_model.specs.Sweeps.{PlanOutcome}
use Rattle.predictions.specs.declared.course.Course.{Course}
use Rattle.predictions.specs.declared.course.CourseEnd.{CourseEnd}
use Rattle.predictions.specs.declared.course.CourseEnd.TheVariants as endings

-- why a plan of rounds ends
abbrev pub round_ending : StopReason → CourseEnd
round_ending few_remain = endings.Few
round_ending too_fast = endings.Fast
round_ending rounds_done = endings.Rounds

-- why a plan of looks ends, by whether its lists shorten
abbrev pub look_ending : PlanEnd → Bool → CourseEnd
look_ending looks.Few shortens = endings.Fits
look_ending looks.Looks shortens = endings.Looks
look_ending looks.Record shortens = if shortens then endings.Cut else endings.Level

-- when a plan stops that ends so at a tick: if the record cuts it while its lists shorten, after the record
abbrev pub stop_after : CourseEnd → ℕ → ℕ
stop_after endings.Cut tick = tick + 1
stop_after endings.Few tick = tick
stop_after endings.Fits tick = tick
stop_after endings.Fast tick = tick
stop_after endings.Rounds tick = tick
stop_after endings.Looks tick = tick
stop_after endings.Level tick = tick

-- what plans of these sums come to
abbrev pub course_of_rounds : PlanOutcome → Course
course_of_rounds outcome = record {
  ending = round_ending outcome.reason;
  steps = outcome.rounds;
  stop = outcome.stop;
  down = outcome.down;
  total = outcome.total;
}

abbrev pub course_of_looks : LookSums → Course
course_of_looks sums = record {
  ending = look_ending sums.end sums.shortens;
  steps = sums.looks;
  stop = stop_after (look_ending sums.end sums.shortens) sums.stop;
  down = sums.down;
  total = sums.total;
}

-- whether a plan that ends so converges
abbrev pub converges : CourseEnd → Bool
converges endings.Few = true
converges endings.Fits = true
converges endings.Fast = false
converges endings.Rounds = false
converges endings.Looks = false
converges endings.Cut = false
converges endings.Level = false

-- whether a plan that ends so stops the guest: a hypervisor does only when what is left fits the limit
abbrev pub stops_guest : CourseEnd → Bool
stops_guest endings.Few = true
stops_guest endings.Fits = true
stops_guest endings.Fast = true
stops_guest endings.Rounds = true
stops_guest endings.Looks = false
stops_guest endings.Cut = false
stops_guest endings.Level = false

-- whether a plan that ends so stops the guest only when what is left fits the limit, so that chance moves the downtime
-- no further than that
abbrev pub is_bounded : CourseEnd → Bool
is_bounded endings.Few = false
is_bounded endings.Fits = true
is_bounded endings.Fast = false
is_bounded endings.Rounds = false
is_bounded endings.Looks = false
is_bounded endings.Cut = false
is_bounded endings.Level = false

-- the word of an end, and its number
abbrev pub end_word : CourseEnd → List ℕ
end_word endings.Few = codes "few"
end_word endings.Fits = codes "few"
end_word endings.Fast = codes "fast"
end_word endings.Rounds = codes "rounds"
end_word endings.Looks = codes "looks"
end_word endings.Cut = codes "cut"
end_word endings.Level = codes "level"

abbrev pub end_number : CourseEnd → ℕ
end_number endings.Few = 0
end_number endings.Fits = 0
end_number endings.Fast = 1
end_number endings.Rounds = 2
end_number endings.Looks = 3
end_number endings.Cut = 4
end_number endings.Level = 5
