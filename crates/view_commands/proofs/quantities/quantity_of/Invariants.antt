use Rattle.std.proofs.Common.{ℕ, ◌≡◌, ◌<◌, List, get_or}
use Rattle.std.specs.Borrow.{Bor}
use Rattle.view_commands.specs.Quantities.{IsCounted}
use Rattle.view_commands.proofs.quantities.quantity_of.Given as goal

abbrev pub invariant-loop-name : goal.invariant-loop-name
invariant-loop-name l = (k : ℕ) → k < l.name-index → (u : Bor (List ℕ) × ℕ) → get_or l.units k u ≡ u → (n : ℕ)
    → ¬ IsCounted l.word u.0.now u.1 n
