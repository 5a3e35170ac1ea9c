-- The ranges over starts as a member of a JSON document: its tokens.
use Rattle.std.specs.Prelude.{List, [], ◌∷◌, ◌++◌, Option, None, Some, codes}
use Rattle.json.specs.Token.{Token}
use Rattle.predictions.specs.Starts.Ranges.{MigrationNumbers, RangesOfStarts}
use Rattle.trace_views.specs.Json.{member_of, number_member, object_of, seconds_member}

-- how long a migration takes, what it sends, and how long the guest does not run
abbrev pub numbers_object : MigrationNumbers → List Token
numbers_object numbers =
    object_of (seconds_member (codes "time_seconds") numbers.time ∷ number_member (codes "sent_bytes") numbers.bytes
    ∷ seconds_member (codes "down_seconds") numbers.downtime ∷ [])

-- how many starts there are, from how many the migration is known, converges and keeps its limit
abbrev pub counts_members : RangesOfStarts → List (List Token)
counts_members ranges =
    number_member (codes "count") ranges.count ∷ number_member (codes "known") ranges.known ∷ number_member
    (codes "converging") ranges.converging
    ∷ number_member (codes "kept") ranges.kept ∷ []

-- these, and what the migration costs at least and at most
abbrev pub ranges_object : RangesOfStarts → List Token
ranges_object ranges = object_of (counts_members ranges
    ++ member_of (codes "least") (numbers_object ranges.least)
    ∷ member_of (codes "greatest") (numbers_object ranges.greatest) ∷ [])

abbrev pub ranges_member : Option RangesOfStarts → List Token
ranges_member None = []
ranges_member (Some ranges) = member_of (codes "starts") (ranges_object ranges)
