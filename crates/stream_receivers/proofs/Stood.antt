-- The end of one lane among those of all workers, before and after it takes.
use Rattle.std.proofs.Common.{◌≡◌, ℕ, ◌<◌, List, [], length, get_or, set, Some, sym, ap, ◌∙◌}
use Rattle.std.specs.List.{slice_get}
use Rattle.std.proofs.lemmas.List.{set-get_or}
use Rattle.std.proofs.lemmas.Option.{slice_get-get_or, same_Some}
use Rattle.stream_lanes.specs.Ends.{InView}

same_end : (a b : InView) → a.lane ≡ b.lane → a.taken ≡ b.taken → a.seen ≡ b.seen → a ≡ b
same_end a b lane taken seen = λ i. record { lane = lane i; taken = taken i; seen = seen i }

-- an end that took nothing, and saw nothing
pub unchanged : (ends : List InView) (worker : ℕ) (before after : InView) → before ≡ get_or ends worker before
    → after.lane ≡ before.lane
    → after.taken ≡ before.taken → before.seen ≡ [] → after.seen ≡ [] → set ends worker after ≡ ends
unchanged ends worker before after there lane taken seen still =
    ap (set ends worker) (same_end after before lane taken (still ∙ sym seen) ∙ there) ∙ set-get_or ends worker before

pub stood : (ends : List InView) (worker : ℕ) (before : InView) → worker < length ends → before
    ≡ get_or ends worker before → slice_get ends worker ≡ Some before
stood ends worker before low there = slice_get-get_or ends worker before low ∙ ap (λ (e : InView). Some e) (sym there)

pub none_seen : (ends : List InView) (worker : ℕ) (before end : InView) → worker < length ends → before
    ≡ get_or ends worker before → before.seen ≡ []
    → slice_get ends worker ≡ Some end → end.seen ≡ []
none_seen ends worker before end low there seen is =
    ap (λ (e : InView). e.seen) (same_Some end before (sym is ∙ stood ends worker before low there)) ∙ seen
