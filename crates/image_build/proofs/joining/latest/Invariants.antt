use Rattle.std.proofs.Common.{◌≡◌, IfSome, None, drop, option_map}
use Rattle.migration_model.specs.Frames.{IsFrame}
use Rattle.migration_model.specs.Parts.{copy_in}
use Rattle.page_message.specs.Shapes.{shape_of}
use Rattle.image_build.proofs.Joined.{kept_of}
use Rattle.image_build.proofs.joining.latest.Given as goal

abbrev pub invariant-loop-part : goal.invariant-loop-part
invariant-loop-part l = record {
  kept : kept_of l.page (option_map (λ f. copy_in (shape_of l.shape) f.now) l.kept) (drop l.part-index l.parts)
      ≡ kept_of l.page None l.parts;
  fits : IfSome l.kept (λ f. IsFrame (shape_of l.shape) f.now);
}
