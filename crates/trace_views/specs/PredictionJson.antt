-- A prediction as a JSON document: its tokens.
use Rattle.std.specs.Prelude.{ℕ, ◌==◌, if◌then◌else◌, List, [], ◌∷◌, ◌++◌, Option, None, Some, codes}
use Rattle.predictions.specs.Units.Scales.{TraceScale}
use Rattle.predictions.specs.declared.units.limits.Limits.{Limits}
use Rattle.json.specs.Token.{Token}
use Rattle.migration_model.specs.Rates.{MigrationSettings}
use Rattle.predictions.specs.Courses.Ends.{end_word}
use Rattle.predictions.specs.Hosts.{link_in_mib, millis_for_pages}
use Rattle.predictions.specs.Agreements.{sure_kept, sure_verdict}
use Rattle.predictions.specs.Predictions.{GuestPrediction, verdict_word}
use Rattle.predictions.specs.Redrawn.Errors.{SampleErrors}
use Rattle.predictions.specs.declared.agreement.verdicts.Agreement.{Agreement}
use Rattle.predictions.specs.declared.course.Manner.{Manner}
use Rattle.predictions.specs.declared.verdict.Verdict.{Verdict}
use Rattle.trace_views.specs.AgreementJson.{draws_member}
use Rattle.trace_views.specs.Enough.{is_sure}
use Rattle.trace_views.specs.EnoughJson.{enough_member}
use Rattle.trace_views.specs.Json.{member_of, number_member, object_of, scale_object, seconds_member, settings_members}
use Rattle.trace_views.specs.Json.{text_member}
use Rattle.trace_views.specs.LooksJson.{looks_member}
use Rattle.trace_views.specs.Outlooks.{tells_looks}
use Rattle.trace_views.specs.PlanJson.{plan_member}
use Rattle.trace_views.specs.RangesJson.{ranges_member}
use Rattle.trace_views.specs.ShareJson.{share_member}
use Rattle.trace_views.specs.StartsJson.{cost_numbers, errors_member}
use Rattle.trace_views.specs.declared.outlook.Outlook.{Outlook}

-- what a migration may take
abbrev pub first_member : Option ℕ → List Token
first_member None = []
first_member (Some first) = number_member (codes "first_bytes") first

abbrev pub limits_object : Limits → List Token
limits_object limits =
    object_of (number_member (codes "link_bytes") limits.link ∷ first_member limits.first ∷ seconds_member
    (codes "down_seconds") limits.downtime
    ∷ seconds_member (codes "reserve_seconds") limits.reserve ∷ [])

-- the settings of its plan, the tick at which it begins, and that of the copy at the destination, if there is one
abbrev pub base_member : Option ℕ → List Token
base_member None = []
base_member (Some base) = number_member (codes "base") base

abbrev pub settings_object : MigrationSettings → List Token
settings_object s =
    object_of (settings_members s ++ number_member (codes "start") s.start ∷ base_member s.base ∷ [])

-- a link of some whole MiB a second
unfoldable pub mib_member : ℕ → List Token
mib_member mib = if mib == 0 then [] else number_member (codes "bandwidth_mib") mib

-- the same limits for QEMU and for libvirt
abbrev pub hosts_object : Limits → List Token
hosts_object limits =
    object_of (number_member (codes "bandwidth_bytes") limits.link ∷ mib_member (link_in_mib limits)
    ∷ number_member (codes "down_milliseconds") (millis_for_pages limits) ∷ [])

-- the migration of a plan: why it stops, what it costs, how many pages of the trace are sent after the stop, and the
-- errors
abbrev pub migration_object : GuestPrediction → Option SampleErrors → List Token
migration_object p errors = object_of (text_member (codes "why") (end_word p.ending) ∷
    (cost_numbers p.manner p.cost ++ number_member (codes "left_pages") p.left ∷ errors_member errors ∷ []))

-- it is left out if the trace ends before it
abbrev pub migration_member : GuestPrediction → Option SampleErrors → List Token
migration_member p errors =
    if p.cost.is_late then [] else member_of (codes "migration") (migration_object p errors)

-- the answers, if they are sure: whether the migration converges, whether it keeps its limit, and how long the trace
-- goes on from its start
abbrev pub answers_with : Verdict → Verdict → ℕ → List (List Token)
answers_with converges kept recorded =
    text_member (codes "converges") (verdict_word converges) ∷ text_member (codes "kept") (verdict_word kept)
    ∷ seconds_member (codes "recorded_seconds") recorded ∷ []

abbrev pub answer_members : ℕ → Agreement → GuestPrediction → Option SampleErrors → List (List Token)
answer_members limit a p errors = answers_with (sure_verdict a p) (sure_kept limit a p.cost errors) p.recorded

-- what was asked: what ticks and pages stand for, the limits, the settings that they make, and by whose plan the
-- migration goes
abbrev pub asked_members : MigrationSettings → TraceScale → Limits → Manner → List (List Token)
asked_members settings scale limits manner =
    member_of (codes "units") (scale_object scale) ∷ member_of (codes "limits") (limits_object limits) ∷ member_of
    (codes "settings") (settings_object settings)
    ∷ plan_member manner ∷ []

-- what comes of it if the hypervisor looks as QEMU does, if that is told
abbrev pub told_member : Outlook → List Token
told_member outlook = if tells_looks outlook then looks_member outlook.looks else []

-- what is predicted: the answers, the migration if it is known, what comes of it if the hypervisor looks as QEMU does,
-- the answers of draws and the ranges over starts if there are any, the shares of the link, and what is enough for the
-- limit
abbrev pub outlook_members : ℕ → Outlook → List (List Token)
outlook_members limit outlook = answer_members limit outlook.agreement outlook.prediction outlook.errors
    ++ migration_member outlook.prediction outlook.errors ∷ told_member outlook
    ∷ draws_member outlook.agreement.draws ∷ ranges_member outlook.ranges ∷ share_member outlook.share
    ∷ enough_member (is_sure limit outlook) outlook.remedies ∷ []

-- what was asked, what is predicted, and the same limits for others
abbrev pub prediction_object : MigrationSettings → TraceScale → Limits → Outlook → List Token
prediction_object settings scale limits outlook = object_of
    (asked_members settings scale limits outlook.prediction.manner
    ++ (outlook_members limits.downtime outlook ++ member_of (codes "hosts") (hosts_object limits) ∷ []))
