use Rattle.std.proofs.Common.{sym, ◌∙◌}
use Rattle.std.proofs.lemmas.Bool.{false≢true}
use Rattle.live_tasks.proofs.Copying.{advances_past, advances_own}
use Rattle.live_tasks.proofs.Held.{holds_all, holds_first}
use Rattle.live_tasks.proofs.copier.SharedRound.copy_word.Goals as goal

pub returns-then-not-owns-clause-scan : goal.returns-then-not-owns-clause-scan
returns-then-not-owns-clause-scan g c =
    advances_past (g.W.WriteLog.trace c.args.self.now.trace.now) c.args.self.now.skip c.args.word
    c.args.copier.now.seat.facts c.args.copier.now.state
    (λ own. false≢true (sym c.if-not-owns.true ∙ c.owns.ensures.1 own))

pub copy_bits-requires-clause-holds : goal.copy_bits-requires-clause-holds
copy_bits-requires-clause-holds g c κs within =
    let facts = c.args.copier.now.seat.facts in
    holds_first c.args.word c.harvest-bits.result c.harvest-bits.new.seat.facts
    (holds_all c.args.word c.harvest-bits.result facts c.harvest-bits.new.seat.facts c.requires.held
    c.harvest-bits.ensures.held)

pub returns-clause-scan : goal.returns-clause-scan
returns-clause-scan g c =
    let facts = c.args.copier.now.seat.facts in
    let harvested = c.harvest-bits in
    advances_own (g.W.WriteLog.trace c.args.self.now.trace.now) c.args.self.now.skip c.args.word harvested.result facts
    harvested.new.seat.facts c.copy_bits.new.copier.seat.facts
    c.args.copier.now.state c.copy_bits.new.copier.state c.requires.held (c.owns.ensures.0 c.if-not-owns.false)
    harvested.ensures.facts harvested.ensures.answer harvested.ensures.fresh
    (holds_all c.args.word harvested.result facts harvested.new.seat.facts c.requires.held harvested.ensures.held)
    harvested.ensures.returned
    c.in_ok-copy_bits.ensures.scan
