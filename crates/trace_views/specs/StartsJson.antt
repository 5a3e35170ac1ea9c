-- The costs of starts as a JSON document: its tokens.
use Rattle.std.specs.Prelude.{ℕ, List, [], ◌∷◌, ◌++◌, Option, None, Some, codes}
use Rattle.std.specs.List.{flat_map}
use Rattle.predictions.specs.Units.Scales.{micros_of}
use Rattle.json.specs.Token.{Token}
use Rattle.predictions.specs.Starts.Costs.{CostAtStart}
use Rattle.predictions.specs.Predictions.{MigrationCost, kept_of, verdict_word}
use Rattle.predictions.specs.Redrawn.Errors.{SampleErrors}
use Rattle.predictions.specs.declared.course.Manner.{Manner}
use Rattle.predictions.specs.declared.measure.Measure.{Measure}
use Rattle.trace_views.specs.Json.{array_of, member_of, number_member, object_of, seconds_member, text_member}
use Rattle.trace_views.specs.PlanJson.{plan_member, steps_member}

-- what a migration costs by a manner, and whether the limit is kept
abbrev pub cost_numbers : Manner → MigrationCost → List (List Token)
cost_numbers manner cost =
    steps_member manner cost.steps ∷ seconds_member (codes "time_seconds") cost.time
    ∷ number_member (codes "sent_bytes") cost.bytes ∷ seconds_member (codes "down_seconds") cost.downtime ∷ []

abbrev pub cost_members : Manner → MigrationCost → List (List Token)
cost_members manner cost = cost_numbers manner cost ++ text_member (codes "kept") (verdict_word (kept_of cost)) ∷ []

-- one standard error of what is sent, of the time, and of the downtime
abbrev pub errors_object : SampleErrors → List Token
errors_object errors =
    object_of (number_member (codes "sent_bytes") errors.bytes ∷ seconds_member (codes "time_seconds") errors.time
    ∷ seconds_member (codes "down_seconds") errors.downtime ∷ [])

abbrev pub errors_member : Option SampleErrors → List Token
errors_member None = []
errors_member (Some errors) = member_of (codes "errors") (errors_object errors)

-- a start, what the migration costs from there, and the errors of that, if they are counted
abbrev pub start_object : Measure → CostAtStart → List Token
start_object measure at = object_of (number_member (codes "start") at.start
    ∷ seconds_member (codes "start_seconds") (micros_of measure.scale at.start)
    ∷ (cost_members measure.manner at.cost ++ errors_member at.errors ∷ []))

-- the chosen start, if there is one
abbrev pub chosen_member : Measure → List ℕ → Option CostAtStart → List Token
chosen_member measure name None = []
chosen_member measure name (Some at) = member_of name (start_object measure at)

-- the facts of some starts: the limit, by whose plan the migrations go, each start, and the best and the worst of them
abbrev pub starts_object : Measure → List CostAtStart → Option CostAtStart → Option CostAtStart → List Token
starts_object measure costs best worst = object_of (seconds_member (codes "limit_seconds") measure.limits.downtime
    ∷ plan_member measure.manner ∷ member_of (codes "starts") (array_of (flat_map (start_object measure) costs))
    ∷ chosen_member measure (codes "best") best ∷ chosen_member measure (codes "worst") worst ∷ [])
