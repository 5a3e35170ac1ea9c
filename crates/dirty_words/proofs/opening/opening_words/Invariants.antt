use Rattle.std.proofs.Common.{◌≡◌, ◌++◌, take}
use Rattle.dirty_words.proofs.opening.opening_words.Given as goal

abbrev pub invariant-loop-place : goal.invariant-loop-place
invariant-loop-place l = l.words.items ≡ l.opening.dirty ++ take l.place-index l.opening.places
