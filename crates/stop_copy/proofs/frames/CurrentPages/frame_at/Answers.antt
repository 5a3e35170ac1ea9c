use Rattle.std.proofs.Common.{◌∙◌, ◌≡◌, length, ap, arith}
use Rattle.migration_model.specs.Frames.{shape_with}
use Rattle.migration_model.specs.Final.{shape_of_trace}
use Rattle.migration_model.proofs.Pages.{length-page_at}
use Rattle.page_message.specs.Shapes.{shape_of}
use Rattle.stop_copy.proofs.Framed.{IsCurrentFrame-from}
use Rattle.stop_copy.proofs.frames.CurrentPages.frame_at.Goals as goal

pub frame_of-requires-clause-whole : goal.frame_of-requires-clause-whole
frame_of-requires-clause-whole g c =
    let len = ap length c.in_ok-bytes.ensures ∙ length-page_at (g.W.WriteLog.trace c.args.self.now.trace.now)
    c.args.page _ c.shape-shape.ensures.is_trace c.requires in
    rw c.shape-shape.ensures.shift (omega (arith, len, c.in_ok-bytes.bytes.ok.0))

pub returns-clause-frame : goal.returns-clause-frame
returns-clause-frame g c =
    let shape : shape_of c.shape-shape.result ≡ shape_of_trace (g.W.WriteLog.trace c.args.self.now.trace.now) =
    λ i. shape_with (c.shape-shape.ensures.shift i) (c.shape-shape.ensures.pages i) (c.shape-shape.ensures.writes i) in
    IsCurrentFrame-from (g.W.WriteLog.trace c.args.self.now.trace.now) c.args.self.now.versions.now c.args.page
    (shape_of c.shape-shape.result) c.frame_of.result c.in_ok-bytes.bytes.items shape
    c.frame_of.ensures.fits c.frame_of.ensures.page c.frame_of.ensures.stamp c.frame_of.ensures.content
    c.in_ok-bytes.ensures
