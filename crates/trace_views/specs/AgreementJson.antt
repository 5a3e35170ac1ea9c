-- The answers of draws as a member of a JSON document: its tokens.
use Rattle.std.specs.Prelude.{List, [], ◌∷◌, Option, None, Some, codes}
use Rattle.json.specs.Token.{Token}
use Rattle.predictions.specs.declared.agreement.counts.AnswerCounts.{AnswerCounts}
use Rattle.trace_views.specs.Json.{member_of, number_member, object_of}

-- how many draws there are, and in how many of them the migration is known, converges and keeps its limit
abbrev pub counts_object : AnswerCounts → List Token
counts_object counts =
    object_of (number_member (codes "count") counts.whole ∷ number_member (codes "known") counts.known ∷ number_member
    (codes "converging") counts.converging
    ∷ number_member (codes "kept") counts.kept ∷ [])

-- there is a member if pages were sampled
abbrev pub draws_member : Option AnswerCounts → List Token
draws_member None = []
draws_member (Some counts) = member_of (codes "redraws") (counts_object counts)
