use Rattle.image_build.proofs.Joined.{Makes}
use Rattle.image_build.proofs.joined_parts.JoinedParts.image.Given as goal

abbrev pub invariant-loop-page : goal.invariant-loop-page
invariant-loop-page l = Makes l.self l.page l.memory.items
