use Rattle.std.proofs.Common.{◌≡◌, ◌↔◌, length}
use Rattle.std.specs.List.{All}
use Rattle.zero_pages.proofs.is_zero.Given as goal

abbrev pub invariant-loop-front : goal.invariant-loop-front
invariant-loop-front l = All (λ byte. byte ≡ 0) l.bytes ↔ (All (λ byte. byte ≡ 0) l.front
    × All (λ byte. byte ≡ 0) l.back)

abbrev pub decreases-loop-front : goal.decreases-loop-front
decreases-loop-front l = length l.front
