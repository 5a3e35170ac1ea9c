use Rattle.std.proofs.Common.{Bool, true, false, subst, sym}
use Rattle.live_tasks.specs.Copies.{HasPeeked, KeepsScan}
use Rattle.live_tasks.proofs.Copying.{copies_offered, copies_unmarked, copies_skipped, on_ok}
use Rattle.live_tasks.proofs.copier.SharedRound.copy_page.Goals as goal

pub returns-then-not-self-clause-scan : goal.returns-then-not-self-clause-scan
returns-then-not-self-clause-scan g c =
    on_ok c.offer_page.result
    (copies_offered (g.W.WriteLog.trace c.args.self.now.trace.now) c.args.self.now.skip c.args.page
    c.args.copier.now.seat.facts c.offer_page.new.copier.seat.facts c.args.copier.now.state
    c.offer_page.new.copier.state c.requires.least) c.offer_page.ensures.offered

pub returns-then-shows-clause-scan : goal.returns-then-shows-clause-scan
returns-then-shows-clause-scan g c =
    let facts = c.args.copier.now.seat.facts in
    let peeked : HasPeeked c.args.page true facts c.shows.new.seat.facts =
    subst (λ (b : Bool). HasPeeked c.args.page b facts c.shows.new.seat.facts) c.if-shows.true
    c.shows.ensures.peeked in
    on_ok c.skip_page.result
    (λ skipped. subst (λ (b : Bool). KeepsScan (g.W.WriteLog.trace c.args.self.now.trace.now) b facts
    c.args.copier.now.state c.skip_page.new.copier.seat.facts c.skip_page.new.copier.state) (sym c.if-not-self.false)
    (copies_skipped (g.W.WriteLog.trace c.args.self.now.trace.now) c.args.page facts c.shows.new.seat.facts
    c.skip_page.new.copier.seat.facts c.args.copier.now.state c.skip_page.new.copier.state c.requires.least peeked
    skipped)) c.skip_page.ensures.skipped

pub returns-clause-scan : goal.returns-clause-scan
returns-clause-scan g c =
    let facts = c.args.copier.now.seat.facts in
    let peeked : HasPeeked c.args.page false facts c.shows.new.seat.facts =
    subst (λ (b : Bool). HasPeeked c.args.page b facts c.shows.new.seat.facts) c.if-shows.false
    c.shows.ensures.peeked in
    on_ok c.offer_page-2.result
    (copies_unmarked (g.W.WriteLog.trace c.args.self.now.trace.now) c.args.self.now.skip c.args.page facts
    c.shows.new.seat.facts c.offer_page-2.new.copier.seat.facts c.args.copier.now.state
    c.offer_page-2.new.copier.state c.requires.least peeked) c.offer_page-2.ensures.offered
