use Rattle.std.proofs.Common.{ap, sym, ◌∙◌}
use Rattle.migration_model.specs.Frames.{GuestShape}
use Rattle.image_build.specs.Joins.{WholeParts}
use Rattle.image_build.proofs.Joined.{shape-join_all}
use Rattle.image_build.proofs.joined_parts.JoinedParts.shape.Goals as goal

pub returns-clause-shape : goal.returns-clause-shape
returns-clause-shape c = ap (λ (w : WholeParts). w.shape) c.self.view_is

pub returns-clause-shift : goal.returns-clause-shift
returns-clause-shift c =
    ap (λ (w : WholeParts). w.shape.shift) c.self.view_is ∙ ap (λ (s : GuestShape). s.shift)
    (sym (shape-join_all c.args.self.now.shape c.args.self.now.parts))

pub returns-clause-pages : goal.returns-clause-pages
returns-clause-pages c =
    ap (λ (w : WholeParts). w.shape.pages) c.self.view_is ∙ ap (λ (s : GuestShape). s.pages)
    (sym (shape-join_all c.args.self.now.shape c.args.self.now.parts))
