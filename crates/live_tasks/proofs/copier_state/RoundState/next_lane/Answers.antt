use Rattle.std.proofs.Common.{◌≡◌, ℕ, ◌<◌, ◌≤◌, length, get_or, set, sym, ap, subst, arith, ◌∙◌, inl, inr}
use Rattle.std.proofs.lemmas.Bool.{cases_lt, false≢true}
use Rattle.stream_lanes.specs.Ends.{OutView, SameOut}
use Rattle.live_tasks.specs.CopierStates.{RoundStateView}
use Rattle.live_tasks.specs.Copies.{IsFullAt, KeepsSent}
use Rattle.live_tasks.proofs.Posting.{full_looked, keeps_looked}
use Rattle.live_tasks.proofs.copier_state.RoundState.next_lane.Goals as goal

-- there is a lane of each stream
lane_there : (inside view : RoundStateView) (stream : ℕ) → inside ≡ view → stream < inside.turn.streams
    → length view.outs ≡ view.turn.streams → stream < length inside.outs
lane_there inside view stream is low lanes = omega (
  arith,
  low,
  lanes,
  ap (λ (d : RoundStateView). length d.outs) is,
  ap (λ (d : RoundStateView). d.turn.streams) is,
)

-- a look at a lane sends nothing
look_keeps : (inside view : RoundStateView) (stream : ℕ) (was out : OutView) → inside ≡ view
    → stream < length inside.outs → was ≡ get_or inside.outs stream was → SameOut was out → out.sent ≡ was.sent
    → KeepsSent view.outs (set inside.outs stream out)
look_keeps inside view stream was out is low there lane sent =
    subst (λ (d : RoundStateView). KeepsSent d.outs (set inside.outs stream out)) is
    (keeps_looked inside.outs stream was out low (sym there) lane sent)

pub returns-then-has_room-clause-sent : goal.returns-then-has_room-clause-sent
returns-then-has_room-clause-sent g c =
    let low = lane_there _ c.args.self.now c.deal-stream.result c.self.view_is c.deal-stream.ensures.within
    c.requires.lanes in
    look_keeps _ c.args.self.now c.deal-stream.result c.index_mut.result.now c.has_room.new.self c.self.view_is low
    c.index_mut.ensures.value c.has_room.ensures.lane c.has_room.ensures.sent

pub returns-clause-sent : goal.returns-clause-sent
returns-clause-sent g c =
    let low = lane_there _ c.args.self.now c.deal-stream.result c.self.view_is c.deal-stream.ensures.within
    c.requires.lanes in
    look_keeps _ c.args.self.now c.deal-stream.result c.index_mut.result.now c.has_room.new.self c.self.view_is low
    c.index_mut.ensures.value c.has_room.ensures.lane c.has_room.ensures.sent

pub returns-clause-full_lane : goal.returns-clause-full_lane
returns-clause-full_lane g c =
    let outs = c.self.inside.outs.items in
    let was = c.index_mut.result.now in
    let low = lane_there _ c.args.self.now c.deal-stream.result c.self.view_is c.deal-stream.ensures.within
    c.requires.lanes in
    let full : was.lane.capacity ≤ length was.sent = elim (cases_lt (length was.sent) was.lane.capacity) [
      | inl few ↦ absurd (false≢true (sym c.if-has_room.false ∙ c.has_room.ensures.few few))
      | inr full ↦ full
    ] in
    subst (IsFullAt (set outs c.deal-stream.result c.has_room.new.self)) (c.deal-stream.ensures.next
    ∙ ap (λ (d : RoundStateView). d.turn.next) c.self.view_is)
    (full_looked outs c.deal-stream.result was c.has_room.new.self low c.has_room.ensures.lane c.has_room.ensures.sent
    full)
