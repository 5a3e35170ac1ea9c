-- By whose plan a migration goes, in a JSON document: its tokens.
use Rattle.std.specs.Prelude.{ℕ, List, codes}
use Rattle.json.specs.Token.{Token}
use Rattle.predictions.specs.declared.course.Manner.{Manner}
use Rattle.predictions.specs.declared.course.Manner.TheVariants as manners
use Rattle.trace_views.specs.Json.{number_member, text_member}

-- the word of a plan, which is what it has a number of
abbrev pub plan_word : Manner → List ℕ
plan_word manners.Looks = codes "looks"
plan_word manners.Rounds = codes "rounds"

-- by whose plan it goes, and how many looks or rounds that has
abbrev pub plan_member : Manner → List Token
plan_member manner = text_member (codes "plan") (plan_word manner)

abbrev pub steps_member : Manner → ℕ → List Token
steps_member manner steps = number_member (plan_word manner) steps
