use Rattle.page_message.specs.Shapes.{shape_of}
use Rattle.image_build.specs.Joins.{whole_with}
use Rattle.image_build.proofs.Joined.{HasFirst}
use Rattle.image_build.proofs.joined_parts.JoinedParts.new.Given as goal

abbrev pub invariant-loop-page : goal.invariant-loop-page
invariant-loop-page l = HasFirst (whole_with (shape_of l.shape) l.parts.items) l.page
