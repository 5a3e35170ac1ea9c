use Rattle.std.proofs.Common.{◌≡◌, ℕ, ◌+◌, ◌/◌, ◌≤◌, subst, arith, List, length, refl, sym, ap, ◌∙◌}
use Rattle.migration_model.specs.Trace.{GuestTrace}
use Rattle.stream_lanes.specs.Ends.{OutView}
use Rattle.page_cache.specs.Cache.{AreKept}
use Rattle.live_tasks.specs.CopierStates.{CopierStateView, RoundStateView}
use Rattle.live_tasks.specs.RoundLogs.{RoundLogView, IsPosted}
use Rattle.live_tasks.specs.Scans.{IsScanned}
use Rattle.live_tasks.proofs.Posting.{same_count}
use Rattle.live_tasks.proofs.Copying.{copy_begins}
use Rattle.live_tasks.proofs.copier.SharedRound.copy.Goals as goal

-- how many words there are
words : (word end count pages : ℕ) → word ≤ end → end ≤ word → end ≡ (count + 63) / 64 → count ≡ pages
    → word ≡ (pages + 63) / 64
words word end count pages up down is same = omega (arith, up, down, is, ap (λ n. (n + 63) / 64) same)

pub loop-word-init : goal.loop-word-init
loop-word-init g c =
    let state = c.open.result in
    let outs = ap (λ (d : RoundStateView). d.outs) c.open.ensures in
    let begins = copy_begins (g.W.WriteLog.trace c.args.self.now.trace.now) c.args.self.now.skip
    c.args.self.now.table.now.start c.args.seat.facts.number
    c.args.seat.facts c.args.state.outs state.outs state.log c.requires.idle
    (ap (λ (d : RoundStateView). d.log) c.open.ensures) outs in
    let lanes = ap (λ (l : List OutView). length l) outs ∙ c.requires.state.lanes_are in
    let turns = ap (λ (d : RoundStateView). d.turn.streams) c.open.ensures ∙ c.requires.state.turns in
    let trace = ap (λ (d : RoundStateView). d.cache.trace) c.open.ensures ∙ c.new-source.ensures in
    record {
      ready = record {
        table_is = c.requires.table;
        trace_is = trace;
        capacity_is = ap (λ (d : RoundStateView). d.cache.capacity) c.open.ensures ∙ c.requires.state.capacity_is;
        lanes = lanes ∙ sym turns;
      };
      number = refl;
      held = begins.1;
      scanned = begins.0;
      posted = begins.2;
    }

pub loop-word-preserved : goal.loop-word-preserved
loop-word-preserved g c =
    let rest = c.loop-word.invariant in
    let scan = c.in_ok-copy_word.ensures.scan in
    record {
      ready = c.in_ok-copy_word.ensures.ready;
      number = scan.number_is ∙ rest.number;
      held = c.in_ok-copy_word.ensures.held;
      scanned = scan.scanned rest.scanned;
      posted = scan.posted c.args.state.outs rest.posted;
    }

pub returns : goal.returns
returns g c =
    let trace = g.W.WriteLog.trace c.args.self.now.trace.now in
    let copier = c.loop-word.copier in
    let rest = c.loop-word.invariant in
    let log = ap (λ (d : CopierStateView). d.log) c.close.ensures.state in
    let outs = ap (λ (d : CopierStateView). d.outs) c.close.ensures.state in
    let lanes = same_count c.args.state.outs copier.state.outs rest.posted.lanes ∙ c.requires.state.lanes_are in
    record {
      table_is = rest.ready.table_is;
      number_is = rest.number;
      is_state = record {
        kept = subst (λ (d : CopierStateView). AreKept trace d.pages.entries) (sym c.close.ensures.state)
            (subst (λ (t : GuestTrace). AreKept t copier.state.cache.entries) rest.ready.trace_is c.close.ensures.kept);
        capacity_is = ap (λ (d : CopierStateView). d.pages.capacity) c.close.ensures.state ∙ rest.ready.capacity_is;
        turns = ap (λ (d : CopierStateView). d.turn.streams) c.close.ensures.state ∙ sym rest.ready.lanes ∙ lanes;
        lanes_are = ap (λ (l : List OutView). length l) outs ∙ lanes;
      };
      held = rest.held;
      scanned = rw log
          (subst (λ (n : ℕ). IsScanned c.args.self.now.skip n copier.seat.facts copier.state.log)
          (words c.loop-word.word _ _ _ c.loop-word.auto.word-end c.loop-word-test.false c.word_count-word-end.ensures
          c.shape-shape.ensures.pages) rest.scanned);
      posted = subst (λ (o : RoundLogView). IsPosted trace c.args.state.outs o c.close.result.outs) (sym log)
          (subst (λ (l : List OutView). IsPosted trace c.args.state.outs copier.state.log l) (sym outs) rest.posted);
    }
