use Rattle.std.proofs.Common.{◌≡◌, ◌+◌, ◌/◌, ◌∙◌, arith, get_or, length, subst}
use Rattle.working_sets.specs.Pieces.{IsJoined, IsMade, cut_at, state_at}
use Rattle.working_sets.proofs.Carried.{cut_all, made_from}
use Rattle.working_sets.proofs.window_tables.tables_by_pieces.Goals as goal

pub join_pieces-requires : goal.join_pieces-requires
join_pieces-requires g c = made_from _ _ _ 0 _ _ (λ i d low.
    let same : i ≡ 0 + i = omega arith in
    subst (λ n. IsMade c.args.settings.now.window (g.T.Timeline.pages c.args.timeline.now)
    (g.T.Timeline.touches c.args.timeline.now) (c.touch_count.result / c.args.pieces + 1) n (get_or c.in_ok-made.made.items i d)) same
    (c.in_ok-made.ensures.each i d (omega (arith, low, c.in_ok-made.ensures.len, c.in_ok-made.made.ok))).1.met)

pub tables_of-requires : goal.tables_of-requires
tables_of-requires g c =
    let touches = g.T.Timeline.touches c.args.timeline.now in
    let len : length c.in_ok-made.made.items ≡ c.args.pieces =
    omega (arith, c.in_ok-made.ensures.len, c.in_ok-made.made.ok) in
    let all : cut_at touches (c.touch_count.result / c.args.pieces + 1) (length c.in_ok-made.made.items)
    ≡ length touches =
    (λ i. cut_at touches (c.touch_count.ensures.count i / c.args.pieces + 1) (len i))
    ∙ cut_all touches c.args.pieces c.requires.some in
    subst (λ n. IsJoined (state_at c.args.settings.now.window (g.T.Timeline.pages c.args.timeline.now) touches n)
    c.in_ok-joined.joined) all c.in_ok-joined.ensures.joined
