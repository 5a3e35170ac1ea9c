-- What is enough for the limit of a migration as a member of a JSON document: its tokens.
use Rattle.std.specs.Prelude.{ℕ, ◌*◌, Bool, if◌then◌else◌, List, [], ◌∷◌, Option, None, Some, codes}
use Rattle.json.specs.Token.{Token}
use Rattle.predictions.specs.declared.remedies.finding.Remedies.{Remedies}
use Rattle.trace_views.specs.Enough.{answer_of, enough_word, offers}
use Rattle.trace_views.specs.Json.{member_of, number_member, object_of, seconds_member, text_member}

-- the least link in bytes a second, the least downtime, the guest's speed, and the latest start, of which each may be
-- missing
abbrev pub link_member : List ℕ → Option ℕ → List Token
link_member name None = []
link_member name (Some kbit) = number_member name (kbit * 125)

abbrev pub down_member : Option ℕ → List Token
down_member None = []
down_member (Some micros) = seconds_member (codes "down_seconds") micros

abbrev pub speed_member : Option ℕ → List Token
speed_member None = []
speed_member (Some percent) = number_member (codes "guest_percent") percent

abbrev pub start_member : Option ℕ → List Token
start_member None = []
start_member (Some start) = number_member (codes "ending_start") start

-- what keeps the limit, and what ends the migration within the trace
abbrev pub amount_members : Remedies → List (List Token)
amount_members r = link_member (codes "link_bytes") r.link ∷ down_member r.downtime ∷ speed_member r.speed
    ∷ link_member (codes "ending_link_bytes") r.ending.link ∷ start_member r.ending.start ∷ []

-- what is enough as a word, and the amounts that are
abbrev pub enough_object : Bool → Remedies → List Token
enough_object sure r = object_of (text_member (codes "answer") (enough_word (answer_of sure r))
    ∷ (if offers (answer_of sure r) then amount_members r else []))

abbrev pub enough_member : Bool → Remedies → List Token
enough_member sure r = member_of (codes "enough") (enough_object sure r)
