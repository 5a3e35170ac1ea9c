-- The shares of a link as a member of a JSON document: its tokens.
use Rattle.std.specs.Prelude.{if◌then◌else◌, List, [], ◌∷◌, Option, None, Some, codes}
use Rattle.json.specs.Token.{Token}
use Rattle.predictions.specs.Predictions.{verdict_word}
use Rattle.predictions.specs.Shares.Texts.{is_known}
use Rattle.predictions.specs.declared.shares.share.LinkShare.{LinkShare}
use Rattle.predictions.specs.declared.verdict.Verdict.{Verdict}
use Rattle.trace_views.specs.Json.{member_of, number_member, object_of, text_member}

-- the verdict at the share below, if one is tried
abbrev pub below_member : Option Verdict → List Token
below_member None = []
below_member (Some other) = text_member (codes "below") (verdict_word other)

-- whether the migration converges, from which share of the link on, and what it does below that
abbrev pub share_object : LinkShare → List Token
share_object found = object_of (text_member (codes "converges") (verdict_word found.verdict)
    ∷ number_member (codes "percent") found.share ∷ below_member found.below ∷ [])

-- there is a member if the verdict at all of the link is known
abbrev pub share_member : LinkShare → List Token
share_member found = if is_known found.verdict then member_of (codes "link_shares") (share_object found) else []
