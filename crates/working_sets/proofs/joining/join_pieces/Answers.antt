use Rattle.std.proofs.Common.{rules, ◌≡◌, Result, List, ap, arith, length, subst, sym}
use Rattle.std.specs.Prelude.{IfErr, IfOk}
use Rattle.working_sets.specs.Pieces.{AreMade, IsJoined, IsPiece, cut_at, state_at}
use Rattle.working_sets.specs.declared.error.TablesError.{TablesError}
use Rattle.working_sets.specs.declared.error.TablesError.TheVariants.{Memory}
use Rattle.working_sets.specs.declared.pieces.Piece.{Piece}
use Rattle.working_sets.proofs.joining.join_pieces.Goals as goal

pub loop-piece-init : goal.loop-piece-init
loop-piece-init g c =
    let same : c.into_iter-piece-iterator.result.rest.items ≡ c.args.made.items =
    c.into_iter-piece-iterator.ensures.into_iter_gives.0 in
    record {
      done = c.in_ok-joined.ensures;
      left = subst (λ (l : List (Result Piece TablesError)). AreMade c.args.settings.now.window
          (g.T.Timeline.pages c.args.timeline.now) (g.T.Timeline.touches c.args.timeline.now) c.args.each 0 l)
          (sym same) c.requires;
      count = omega (arith, ap length same);
    }

pub join_piece-requires-clause-piece : goal.join_piece-requires-clause-piece
join_piece-requires-clause-piece g c =
    let at = c.loop-piece in
    let pages = g.T.Timeline.pages c.args.timeline.now in
    let touches = g.T.Timeline.touches c.args.timeline.now in
    let all = subst (λ (l : List (Result Piece TablesError)). AreMade c.args.settings.now.window pages touches
    c.args.each at.number l) c.in-Some.ensures.steps.0 at.invariant.left in
    subst (λ (r : Result Piece TablesError). IfOk r (IsPiece c.args.settings.now.window pages touches c.args.each
    at.number)) c.in_ok-piece.was all.0.piece

pub returns-in_err-piece-clause-refusal : goal.returns-in_err-piece-clause-refusal
returns-in_err-piece-clause-refusal g c =
    let at = c.loop-piece in
    let all = subst (λ (l : List (Result Piece TablesError)). AreMade c.args.settings.now.window
    (g.T.Timeline.pages c.args.timeline.now) (g.T.Timeline.touches c.args.timeline.now) c.args.each at.number l)
    c.in-Some.ensures.steps.0 at.invariant.left in
    let is : c.in_err-piece.field-0.0 ≡ Memory =
    subst (λ (r : Result Piece TablesError). IfErr r (λ e. e ≡ Memory)) c.in_err-piece.was all.0.refusal in
    search (rules, is)

pub loop-piece-preserved : goal.loop-piece-preserved
loop-piece-preserved g c =
    let at = c.loop-piece in
    let all = subst (λ (l : List (Result Piece TablesError)). AreMade c.args.settings.now.window
    (g.T.Timeline.pages c.args.timeline.now) (g.T.Timeline.touches c.args.timeline.now) c.args.each at.number l)
    c.in-Some.ensures.steps.0 at.invariant.left in
    record {
      done = c.in_ok-join_piece.ensures;
      left = all.1;
      count = omega (arith, at.invariant.count, ap length c.in-Some.ensures.steps.0);
    }

pub returns-clause-joined : goal.returns-clause-joined
returns-clause-joined g c =
    let at = c.loop-piece in
    let all : at.number ≡ length c.args.made.items =
    omega (arith, at.invariant.count, c.in-None.ensures.steps.0, at.piece-iterator.rest.ok) in
    subst (λ n. IsJoined (state_at c.args.settings.now.window (g.T.Timeline.pages c.args.timeline.now)
    (g.T.Timeline.touches c.args.timeline.now) (cut_at (g.T.Timeline.touches c.args.timeline.now) c.args.each n))
    at.joined) all at.invariant.done
