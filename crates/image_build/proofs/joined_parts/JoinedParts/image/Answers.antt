use Rattle.std.proofs.Common.{◌++◌, ap, ◌∙◌, arith}
use Rattle.migration_model.specs.Frames.{GuestShape}
use Rattle.migration_model.specs.Memory.{memory_with}
use Rattle.migration_model.specs.Parts.{copy_in}
use Rattle.image_build.specs.Joins.{WholeParts}
use Rattle.image_build.proofs.Joined.{Makes-more, memory_from_all, size_in}
use Rattle.image_build.proofs.joined_parts.JoinedParts.image.Goals as goal

pub loop-page-preserved : goal.loop-page-preserved
loop-page-preserved c =
    let whole = c.args.self.now in
    let same = ap (λ (w : WholeParts). w.shape) c.self.view_is in
    let text = c.in_ok-push_body.ensures ∙ ap (λ (s : GuestShape). c.loop-page.memory.items
    ++ (copy_in s c.frame.result.now).content) same in
    Makes-more whole c.loop-page.page (copy_in whole.shape c.frame.result.now) c.loop-page.memory.items
    c.push_body.new.memory.items c.loop-page.invariant
    c.frame.ensures.copy (size_in whole.shape c.frame.result.now c.frame.ensures.fits) text

pub returns : goal.returns
returns c =
    let same = ap (λ (w : WholeParts). w.shape) c.self.view_is in
    c.of.ensures ∙ ap (λ (s : GuestShape). memory_with s.shift s.pages c.loop-page.memory.items) same
    ∙ memory_from_all c.args.self.now c.loop-page.page c.loop-page.memory.items c.loop-page.invariant
    (omega (arith, c.loop-page-test.false, c.loop-page.auto.page-end, ap (λ (s : GuestShape). s.pages) same))
