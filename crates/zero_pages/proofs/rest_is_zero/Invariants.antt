use Rattle.std.proofs.Common.{◌≡◌, ◌↔◌, ℕ, ◌<◌, get_or}
use Rattle.zero_pages.proofs.rest_is_zero.Given as goal

abbrev pub invariant-loop-byte : goal.invariant-loop-byte
invariant-loop-byte l = (l.seen ≡ 0) ↔ ((k : ℕ) → k < l.byte-index → get_or l.rest k 0 ≡ 0)
