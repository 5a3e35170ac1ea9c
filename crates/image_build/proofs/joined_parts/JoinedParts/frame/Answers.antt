use Rattle.std.proofs.Common.{◌<◌, subst, sym, ◌∙◌}
use Rattle.image_build.specs.Joins.{WholeParts}
use Rattle.image_build.proofs.joined_parts.JoinedParts.frame.Goals as goal

pub unreachable-requires : goal.unreachable-requires
unreachable-requires c =
    let low = subst (λ (w : WholeParts). c.args.page < w.shape.pages) (sym c.self.view_is) c.requires in
    let has = c.self.invariant.each c.args.page low in
    cc (rw c.deref.ensures.value at c.in_default.ensures.copy ∙ has.1)
