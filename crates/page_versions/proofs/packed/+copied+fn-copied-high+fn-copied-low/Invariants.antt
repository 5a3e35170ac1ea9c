use Rattle.std.proofs.Common.{◌≡◌, ◌+◌, ◌-◌, ◌*◌}
use Rattle.page_versions.specs.Copies.{copies_of}
use Rattle.page_versions.proofs.packed.+copied+fn-copied-high+fn-copied-low.Given as goal

abbrev pub invariant-loop-page : goal.invariant-loop-page
invariant-loop-page g l = l.pages.items ≡ copies_of (g.W.WriteLog.trace l.trace) l.fn.from (l.page - l.fn.from)

abbrev pub decreases-copied : goal.decreases-copied
decreases-copied g l = 2 * (l.to - l.from)

abbrev pub decreases-low : goal.decreases-low
decreases-low g l = 2 * (l.middle - l.from) + 1

abbrev pub decreases-high : goal.decreases-high
decreases-high g l = 2 * (l.to - l.middle) + 1
