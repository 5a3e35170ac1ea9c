use Rattle.image_build.proofs.Resumed.{Resumes}
use Rattle.image_build.proofs.resuming.resume.Given as goal

abbrev pub invariant-loop-page : goal.invariant-loop-page
invariant-loop-page g l = Resumes (g.W.WriteLog.trace l.trace) l.versions l.fn.image.bytes l.page l.memory.items
