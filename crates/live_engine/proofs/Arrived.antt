-- What arrives in the parts when all lanes are drained.
use Rattle.std.proofs.Common.{◌≡◌, ℕ, ◌<◌, ◌≤◌, ◌⊎◌, inl, inr, List, length, map, sym, ap, subst, ◌∙◌, arith, Vec}
use Rattle.std.proofs.Common.{Global}
use Rattle.std.specs.Prelude.{Option, Some, None, IfSome, IsSomeAnd, slice_get, slice_index}
use Rattle.std.specs.List.{All, Contains}
use Rattle.std.proofs.lemmas.List.{length-map}
use Rattle.std.proofs.lemmas.Option.{same_Some, slice_get_within, slice_get-get_or}
use Rattle.migration_model.specs.Trace.{GuestTrace}
use Rattle.migration_model.specs.Versions.{page_at, version_before}
use Rattle.migration_model.specs.Rates.{MigrationSettings}
use Rattle.migration_model.specs.Rounds.{MigrationPlan, PlannedRound}
use Rattle.migration_model.specs.Frames.{GuestShape, PageFrame, IsGuestShape, content_of}
use Rattle.migration_model.specs.Parts.{GuestPart, PageCopy, IsPart, IsHonest, copy_at}
use Rattle.migration_model.specs.Images.{AreNotBeyond, HaveCurrent}
use Rattle.migration_model.specs.Final.{shape_of_trace}
use Rattle.migration_model.specs.Live.{LiveRound, LiveRounds}
use Rattle.migration_model.proofs.Frames.{one_frame_lem}
use Rattle.migration_model.proofs.Placed.{version_rises}
use Rattle.migration_model.proofs.Lists.{if_some}
use Rattle.dirty_words.specs.Seats.{ClosedView}
use Rattle.stream_lanes.specs.Ends.{InView, IsSentOn, LaneId, OutView}
use Rattle.stream_lanes.specs.Grids.{AreColumns}
use Rattle.stream_lanes.proofs.Grown.{within}
use Rattle.live_tasks.specs.CopierStates.{CopierStateView, IsCopierState}
use Rattle.live_engine.specs.Lists.{rows_of}
use Rattle.stream_receivers.specs.Receivers.{AreEnds, AreFrames, HasFrames, ReceiverView}
use Rattle.stream_receivers.proofs.Had.{has_same}
use Rattle.stream_receivers.proofs.Ends.{holds_at}
use Rattle.live_engine.specs.declared.migration.EndedRun.{EndedRun}
use Rattle.live_engine.specs.declared.opening.Team.{Team}
use Rattle.live_engine.specs.declared.rounds.Progress.{Progress}
use Rattle.live_engine.specs.Joining.{AreJoined, HaveCapacity, IsAsInBase, IsCurrentText, IsMarked, IsSentBy, lanes_of}
use Rattle.live_engine.specs.Receiving.{AreCrossed, HaveArrived, IsSentTo, lanes_in}
use Rattle.live_engine.specs.Runs.{AllSentArrived, AreDone, AreOpened, HasEnded, IsTeamOf}
use Rattle.live_engine.proofs.Crossed.{lanes_kept, shapes_kept}
use Rattle.live_engine.proofs.Each.{all_at, any_at, any_there, made_of, makes_at, pick}
use Rattle.live_engine.proofs.Running.{fits_pages}

some_from : {X : Type 0} (P : X → Type 0) (o : Option X) (x : X) → o ≡ Some x → P x → IsSomeAnd o P
some_from P o x there holds = subst (λ q. IsSomeAnd q P) (sym there) holds

abbrev items_of : Vec OutView Global → List OutView
items_of row = row.items

abbrev lanes_by : List OutView → List LaneId
lanes_by outs = map (λ (out : OutView). out.lane) outs

-- what was sent to a stream was sent by some copier
by_some : (stream : ℕ) (rows : List (List OutView)) (text : List ℕ) → IsSentTo stream rows text → IsSentBy rows text
by_some stream rows text sent =
    let found = any_there (λ (row : List OutView). (out : OutView) × (slice_get row stream ≡ Some out)
    × Contains out.sent text) rows sent in
    let out = found.3 in
    any_at (λ (row : List OutView). IsSentOn row text) rows found.0 found.1 found.2
    (any_at (λ (o : OutView). Contains o.sent text) found.1 stream out.0 out.1 out.2)

-- each row has an end for each stream
pub row_size : (copiers streams : ℕ) (rows : List (Vec OutView Global)) (receivers : List ReceiverView)
    → AreCrossed copiers streams (lanes_of (map items_of rows)) (map lanes_in receivers)
    → All (λ (row : Vec OutView Global). length row.items ≡ streams) rows
row_size copiers streams rows receivers crossed = all_at (λ (row : Vec OutView Global). length row.items ≡ streams) rows
    (λ worker row there.
    sym (length-map row.items (λ (o : OutView). o.lane))
    ∙ holds_at (λ (ids : List LaneId). length ids ≡ streams) (lanes_of (map items_of rows)) worker
    (lanes_by row.items) crossed.rows
    (makes_at lanes_by (map items_of rows) worker row.items (makes_at items_of rows worker row there)))

-- the rows of ends with the streams' columns of them, and the receivers of the other ends
module _ (copiers streams : ℕ) (rows columns : List (Vec OutView Global)) (receivers : List ReceiverView)
    (are : AreColumns streams rows columns)
    (crossed : AreCrossed copiers streams (lanes_of (map items_of rows)) (map lanes_in receivers)) where
  rows_are : length rows ≡ copiers
  rows_are = sym (length-map rows items_of) ∙ sym (length-map (map items_of rows) lanes_by) ∙ crossed.copiers_are

  pub ends_of : (stream : ℕ) (outs : Vec OutView Global) (receiver : ReceiverView) → slice_get columns stream
      ≡ Some outs → slice_get receivers stream ≡ Some receiver
      → AreEnds outs.items receiver.ends
  ends_of stream outs receiver column_there receiver_there =
      let taking_there : slice_get (map lanes_in receivers) stream
      ≡ Some (lanes_in receiver) = makes_at lanes_in receivers stream receiver receiver_there in
      let size : length outs.items ≡ length rows = holds_at
      (λ (column : Vec OutView Global). length column.items ≡ length rows) columns stream outs are.sizes
      column_there in
      let lanes : length (lanes_in receiver) ≡ copiers = holds_at (λ (column : List LaneId). length column ≡ copiers)
      (map lanes_in receivers) stream (lanes_in receiver) crossed.columns taking_there in
      record {
        count = size ∙ rows_are ∙ sym lanes ∙ length-map receiver.ends (λ (end : InView). end.lane);
        each = λ worker out end out_there end_there.
            let low : worker < length rows = (let within = slice_get_within outs.items worker out out_there in omega
            (arith, within, size)) in
            let row = within rows worker low in
            let in_row : slice_get row.0.items stream
            ≡ Some out = sym (are.same worker stream row.0 outs row.1 column_there) ∙ out_there in
            let sending_there : slice_get (lanes_of (map items_of rows)) worker ≡ Some (lanes_by row.0.items) =
            makes_at lanes_by (map items_of rows) worker row.0.items (makes_at items_of rows worker row.0 row.1) in
            let same = crossed.lanes worker stream (lanes_by row.0.items) (lanes_in receiver) sending_there
            taking_there in
            sym (same_Some out.lane end.lane (sym (makes_at (λ (o : OutView). o.lane) row.0.items stream out in_row)
            ∙ same ∙ makes_at (λ (e : InView). e.lane) receiver.ends worker end end_there));
      }

  sent_to : (stream : ℕ) (outs : Vec OutView Global) (text : List ℕ) → slice_get columns stream ≡ Some outs
      → IsSentOn outs.items text → IsSentTo stream (map items_of rows) text
  sent_to stream outs text column_there sent =
      let found = any_there (λ (out : OutView). Contains out.sent text) outs.items sent in
      let size : length outs.items ≡ length rows = holds_at
      (λ (column : Vec OutView Global). length column.items ≡ length rows) columns stream outs are.sizes
      column_there in
      let low : found.0 < length rows = (let within = slice_get_within outs.items found.0 found.1 found.2 in omega
      (arith, within, size)) in
      let row = within rows found.0 low in
      any_at (λ (row : List OutView). (out : OutView) × (slice_get row stream ≡ Some out) × Contains out.sent text)
      (map items_of rows) found.0 row.0.items (makes_at items_of rows found.0 row.0 row.1)
      (found.1, sym (are.same found.0 stream row.0 outs row.1 column_there) ∙ found.2, found.3)

  sent_on : (stream : ℕ) (outs : Vec OutView Global) (text : List ℕ) → slice_get columns stream ≡ Some outs
      → IsSentTo stream (map items_of rows) text → IsSentOn outs.items text
  sent_on stream outs text column_there sent =
      let found = any_there (λ (row : List OutView). (out : OutView) × (slice_get row stream ≡ Some out)
      × Contains out.sent text) (map items_of rows) sent in
      let row = made_of items_of rows found.0 found.1 found.2 in
      let out = found.3 in
      let in_row : slice_get row.0.items stream ≡ Some out.0 = ap (λ (outs : List OutView). slice_get outs stream) row.2
      ∙ out.1 in
      any_at (λ (out : OutView). Contains out.sent text) outs.items found.0 out.0
      (are.same found.0 stream row.0 outs row.1 column_there ∙ in_row) out.2

  pub arrived : (shape : GuestShape) (parts : List GuestPart)
      → All (λ (r : ReceiverView). r.part.shape ≡ shape) receivers → AreFrames shape (IsSentBy (map items_of rows))
      → length parts ≡ length receivers
      → ((stream : ℕ) (outs : Vec OutView Global) (receiver : ReceiverView) (part : GuestPart)
      → slice_get columns stream ≡ Some outs → slice_get receivers stream ≡ Some receiver
      → slice_get parts stream ≡ Some part → AreFrames receiver.part.shape (IsSentOn outs.items)
      → HasFrames receiver.part.shape (IsSentOn outs.items) part)
      → HaveArrived shape streams (map items_of rows) parts
  arrived shape parts shapes frames count each =
      let streams_are : length receivers ≡ streams = sym (length-map receivers lanes_in) ∙ crossed.streams_are in
      record {
        count = count ∙ streams_are;
        each = λ stream part part_there.
            let within = slice_get_within parts stream part part_there in
            let r = pick receivers stream (omega (arith, within, count)) in
            let receiver_there : slice_get receivers stream
            ≡ Some r.0 = slice_get-get_or receivers stream r.0 (omega (arith, within, count)) ∙ ap Some (sym r.1) in
            let o = pick columns stream (omega (arith, within, count, streams_are, are.count)) in
            let column_there : slice_get columns stream
            ≡ Some o.0 = slice_get-get_or columns stream o.0 (omega (arith, within, count, streams_are, are.count))
            ∙ ap Some (sym o.1) in
            let shape_is : r.0.part.shape ≡ shape = holds_at (λ (x : ReceiverView). x.part.shape ≡ shape) receivers
            stream r.0 shapes receiver_there in
            let all : AreFrames shape (IsSentOn o.0.items) = λ text sent. frames text
            (by_some stream (map items_of rows) text (sent_to stream o.0 text column_there sent)) in
            let has : HasFrames shape (IsSentOn o.0.items) part = subst
            (λ (s : GuestShape). HasFrames s (IsSentOn o.0.items) part) shape_is
            (each stream o.0 r.0 part column_there receiver_there part_there
            (subst (λ (s : GuestShape). AreFrames s (IsSentOn o.0.items)) (sym shape_is) all)) in
            has_same shape (IsSentOn o.0.items) (IsSentTo stream (map items_of rows)) part
            (λ text sent. sent_to stream o.0 text column_there sent)
            (λ text sent. sent_on stream o.0 text column_there sent) has;
      }

-- ---- what all rounds left

module _ (trace : GuestTrace) (base : Option ℕ) (copiers streams tick : ℕ) (planned : List PlannedRound)
    (rounds : List LiveRound) (closed : ClosedView) (rows : List (List OutView))
    (parts : List GuestPart) (joined : AreJoined trace base copiers tick planned rounds closed rows)
    (sizes : All (λ (row : List OutView). length row ≡ streams) rows)
    (come : HaveArrived (shape_of_trace trace) streams rows parts) where
  -- a copy in a part is that of a frame that was sent
  copy_is : (stream page : ℕ) (part : GuestPart) (copy : PageCopy) → slice_get parts stream ≡ Some part
      → copy_at part page ≡ Some copy
      → (copy.content ≡ page_at trace page copy.stamp) × (copy.stamp ≤ slice_index closed.versions page)
  copy_is stream page part copy part_there there =
      let has = come.each stream part part_there in
      let had = has.had page copy there in
      let honest = joined.honest had.0 (by_some stream rows had.0 had.2) in
      let shape_is : IsGuestShape (shape_of_trace trace) = subst IsGuestShape has.shape_is has.is_part.shape in
      let same : honest.frame ≡ had.1 = one_frame_lem (shape_of_trace trace) had.0 honest.frame had.1 shape_is
      honest.spells had.3 in
      let content : content_of (shape_of_trace trace) had.1 ≡ page_at trace had.1.page had.1.stamp =
      subst (λ (f : PageFrame). content_of (shape_of_trace trace) f ≡ page_at trace f.page f.stamp) same
      honest.content in
      let bound : had.1.stamp ≤ slice_index closed.versions had.1.page = subst
      (λ (f : PageFrame). f.stamp ≤ slice_index closed.versions f.page) same honest.bound in
      subst (λ (c : PageCopy). (c.content ≡ page_at trace page c.stamp) × (c.stamp ≤ slice_index closed.versions page))
      (sym had.5)
      (subst (λ (p : ℕ). (content_of (shape_of_trace trace) had.1 ≡ page_at trace p had.1.stamp)
      × (had.1.stamp ≤ slice_index closed.versions p)) had.4 (content, bound))

  pub not_beyond : AreNotBeyond trace (shape_of_trace trace) closed.versions parts
  not_beyond = record {
    are_parts = all_at IsPart parts (λ stream part there. (come.each stream part there).is_part);
    shapes = all_at (λ (part : GuestPart). part.shape ≡ shape_of_trace trace) parts
        (λ stream part there. (come.each stream part there).shape_is);
    honest = all_at (IsHonest trace) parts (λ stream part part_there page copy there.
        (copy_is stream page part copy part_there there).0);
    bound = λ page. all_at (λ (part : GuestPart). IfSome (copy_at part page)
        (λ copy. copy.stamp ≤ slice_index closed.versions page)) parts
        (λ stream part part_there. if_some (copy_at part page)
        (λ copy there. (copy_is stream page part copy part_there there).1));
  }

  -- a page that was sent as it is
  sent_current : (page : ℕ) → page < trace.pages → (text : List ℕ) × IsSentBy rows text
      × IsCurrentText trace closed.versions page text → HaveCurrent closed.versions parts page
  sent_current page real found =
      let text = found.0 in
      let frame = found.2.frame in
      let row = any_there (λ (outs : List OutView). IsSentOn outs text) rows found.1 in
      let end = any_there (λ (out : OutView). Contains out.sent text) row.1 row.3 in
      let stream : ℕ = end.0 in
      let size : length row.1 ≡ streams = holds_at (λ (r : List OutView). length r ≡ streams) rows row.0 row.1 sizes
      row.2 in
      let low : stream < length parts = (let within = slice_get_within row.1 stream end.1 end.2 in omega
      (arith, within, size, come.count)) in
      let p = pick parts stream low in
      let part_there : slice_get parts stream ≡ Some p.0 = slice_get-get_or parts stream p.0 low ∙ ap Some (sym p.1) in
      let sent : IsSentTo stream rows text =
      any_at (λ (r : List OutView). (out : OutView) × (slice_get r stream ≡ Some out) × Contains out.sent text) rows
      row.0 row.1 row.2 (end.1, end.2, end.3) in
      let came = (come.each stream p.0 part_there).came text frame sent found.2.spells in
      let there : copy_at p.0 page ≡ Some came.0 = ap (copy_at p.0) (sym found.2.page_is) ∙ came.1 in
      let up = came.2 in
      let down = (copy_is stream page p.0 came.0 part_there there).1 in
      let same : came.0.stamp ≡ slice_index closed.versions page = omega (arith, up, down, found.2.stamp_is) in
      any_at (λ (part : GuestPart). IsSomeAnd (copy_at part page)
      (λ copy. copy.stamp ≡ slice_index closed.versions page)) parts stream p.0 part_there
      (some_from (λ copy. copy.stamp ≡ slice_index closed.versions page) (copy_at p.0 page) came.0 there same)

  pub current : (page : ℕ) → page < trace.pages → (IsMarked closed.dirty page → ⊥)
      → HaveCurrent closed.versions parts page ⊎ IsAsInBase trace base closed.versions page
  current page real unmarked = elim (joined.current page real unmarked) [
    | inl sent ↦ inl (sent_current page real sent)
    | inr as_base ↦ inr as_base
  ]

-- the versions of a base are no later than those that were left
base_before : (trace : GuestTrace) (base : Option ℕ) (tick : ℕ) (versions : List ℕ)
    → ((page : ℕ) → page < trace.pages → slice_index versions page ≡ version_before trace page tick)
    → IfSome base (λ from. from ≤ tick) → IfSome base
    (λ from. (page : ℕ) → page < trace.pages → version_before trace page from ≤ slice_index versions page)
base_before trace None tick versions are low = tt
base_before trace (Some from) tick versions are low = λ page real.
    (let up = version_rises trace page from tick low in omega (arith, up, are page real))

-- each state has an end for each stream
pub sizes_of : (trace : GuestTrace) (streams : ℕ) (states : List CopierStateView)
    → All (IsCopierState trace streams) states → All (λ (row : List OutView). length row ≡ streams) (rows_of states)
sizes_of trace streams states each = all_at (λ (row : List OutView). length row ≡ streams) (rows_of states)
    (λ copier row there.
    let state = made_of (λ (d : CopierStateView). d.outs) states copier row there in
    sym (ap length state.2) ∙ (holds_at (IsCopierState trace streams) states copier state.0 each state.1).lanes_are)

-- the lanes that are left cross like those that were opened
pub still_crossed : (trace : GuestTrace) (s : MigrationSettings) (plan : MigrationPlan) (team : Team)
    (first : List CopierStateView) (opened : List ReceiverView) (ended : EndedRun) → AreOpened trace team first opened
    → HasEnded trace s plan team first opened ended
    → AreCrossed (length ended.progress.states.items) team.streams (lanes_of (rows_of ended.progress.states.items))
    (map lanes_in ended.receivers.items)
still_crossed trace s plan team first opened ended are is =
    let done = is.done in
    let receivers = ended.receivers.items in
    let sends : List (List LaneId) = lanes_of (rows_of ended.progress.states.items) in
    subst (λ (n : ℕ). AreCrossed n team.streams sends (map lanes_in receivers))
    (sym done.under_way.states_are)
    (subst (λ (sends : List (List LaneId)). AreCrossed team.copiers team.streams sends (map lanes_in receivers))
    (sym done.lanes)
    (subst (λ (takes : List (List LaneId)). AreCrossed team.copiers team.streams (lanes_of (rows_of first)) takes)
    (sym (lanes_kept opened receivers is.same)) are.crossed))

-- what was sent has arrived
pub all_came : (trace : GuestTrace) (s : MigrationSettings) (plan : MigrationPlan) (team : Team)
    (first : List CopierStateView) (opened : List ReceiverView) (ended : EndedRun) (parts : List GuestPart)
    → AreOpened trace team first opened → HasEnded trace s plan team first opened ended
    → (All (λ (r : ReceiverView). r.part.shape ≡ shape_of_trace trace) ended.receivers.items
    → AreFrames (shape_of_trace trace) (IsSentBy (rows_of ended.progress.states.items))
    → HaveArrived (shape_of_trace trace) team.streams (rows_of ended.progress.states.items) parts)
    → AllSentArrived trace s.base team.streams ended.progress.closed parts
all_came trace s plan team first opened ended parts are is come_by =
    let done = is.done in
    let closed = ended.progress.closed in
    let rounds = ended.progress.rounds.items in
    let states : List CopierStateView = ended.progress.states.items in
    let come : HaveArrived (shape_of_trace trace) team.streams (rows_of states) parts =
    come_by (shapes_kept (shape_of_trace trace) opened ended.receivers.items is.same are.shapes)
    (λ text sent. (let h = done.joined.honest text sent in (h.frame, h.spells))) in
    let sizes = sizes_of trace team.streams states done.under_way.each in
    record {
      fits = fits_pages trace s.base plan.stop team plan.rounds rounds closed states done.under_way done.joined;
      base_low = base_before trace s.base plan.stop closed.versions done.joined.versions done.joined.base_low;
      count = come.count;
      not_beyond = not_beyond trace s.base team.copiers team.streams plan.stop plan.rounds rounds closed
          (rows_of states) parts done.joined sizes come;
      current = current trace s.base team.copiers team.streams plan.stop plan.rounds rounds closed (rows_of states)
          parts done.joined sizes come;
    }

-- the rounds keep the law of the settings
pub keeps_settings : (trace : GuestTrace) (s : MigrationSettings) (plan : MigrationPlan) (team : Team)
    (first : List CopierStateView) (opened : List ReceiverView) (progress : Progress) → IsTeamOf s team
    → AreOpened trace team first opened → AreDone trace s plan team first progress
    → LiveRounds trace s.base s.skip s.workers s.lane plan.rounds progress.rounds.items
keeps_settings trace s plan team first opened progress team_is are done =
    subst (λ (n : ℕ). LiveRounds trace s.base s.skip n s.lane plan.rounds progress.rounds.items) team_is.copiers_are
    (done.law s.lane (subst (λ (n : ℕ). HaveCapacity n (lanes_of (rows_of first))) team_is.lane_is are.capacity))
