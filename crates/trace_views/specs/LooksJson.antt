-- A forecast of a hypervisor's migration as members of a JSON document. This project's own.
use Rattle.std.specs.Prelude.{List, [], ◌∷◌, codes, Option, None, Some}
use Rattle.json.specs.Token.{Token}
use Rattle.migration_model.specs.Looks.{PlanEnd, few_left, looks_done, record_ends}
use Rattle.predictions.specs.Looks.{LookForecast, sent_before}
use Rattle.trace_views.specs.Json.{flag_member, member_of, number_member, object_of, seconds_member}

-- what the migration costs, and what is known of it if the record ends first
abbrev pub ended_members : LookForecast → List (List Token)
ended_members f =
    number_member (codes "looks") f.looks ∷ seconds_member (codes "time_seconds") f.time
    ∷ number_member (codes "sent_bytes") f.bytes ∷ seconds_member (codes "down_seconds") f.downtime
    ∷ flag_member (codes "kept") f.is_kept ∷ []

abbrev pub unended_members : LookForecast → List (List Token)
unended_members f =
    number_member (codes "looks") f.looks ∷ number_member (codes "sent_bytes") (sent_before f)
    ∷ number_member (codes "left_bytes") f.left ∷ []

abbrev pub forecast_members : PlanEnd → LookForecast → List (List Token)
forecast_members record_ends f = unended_members f
forecast_members few_left f = ended_members f
forecast_members looks_done f = ended_members f

abbrev pub looks_member : Option LookForecast → List Token
looks_member None = []
looks_member (Some f) = member_of (codes "like_qemu") (object_of (forecast_members f.end f))
