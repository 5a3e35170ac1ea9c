use Rattle.std.proofs.Common.{take}
use Rattle.stop_copy.specs.Copies.{AreCurrentFrames}
use Rattle.stop_copy.proofs.frames.CurrentPages.frames_of.Given as goal

abbrev pub invariant-loop-page : goal.invariant-loop-page
invariant-loop-page g l = AreCurrentFrames (g.W.WriteLog.trace l.self.trace.now) l.self.versions.now
    (take l.page-index l.pages) l.frames.items
