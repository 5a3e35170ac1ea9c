use Rattle.live_engine.specs.Lists.{rows_of}
use Rattle.live_engine.proofs.Running.{joined_first}
use Rattle.live_engine.proofs.rounds.Migration.begin.Goals as goal

pub returns-clause-joined : goal.returns-clause-joined
returns-clause-joined g c =
    joined_first (g.W.WriteLog.trace c.args.self.now.trace.now) c.args.base c.args.self.now.team.copiers c.args.start _
    (rows_of c.args.states.items) c.requires.base
    c.in_ok-versions.ensures.each c.in_ok-dirty.ensures.pages c.requires.states.new
