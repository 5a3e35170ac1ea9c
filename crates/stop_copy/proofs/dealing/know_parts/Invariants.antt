use Rattle.std.proofs.Common.{ℕ, ◌<◌, get_or}
use Rattle.migration_model.specs.Parts.{GuestPart, IsPart}
use Rattle.stop_copy.proofs.dealing.know_parts.Given as goal

abbrev pub invariant-loop-part : goal.invariant-loop-part
invariant-loop-part l = (k : ℕ) (d : GuestPart) → k < l.part-index → IsPart (get_or l.parts k d)
