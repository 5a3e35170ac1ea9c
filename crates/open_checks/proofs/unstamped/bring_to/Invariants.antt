use Rattle.std.proofs.Common.{◌-◌, length}
use Rattle.open_checks.proofs.Fitting.{IsSought}
use Rattle.open_checks.proofs.unstamped.bring_to.Given as goal

abbrev pub invariant-loop-version : goal.invariant-loop-version
invariant-loop-version l = IsSought l.trace l.stop l.page l.from l.bytes l.content l.version

abbrev pub decreases-loop-version : goal.decreases-loop-version
decreases-loop-version l = length l.trace.writes - l.version
