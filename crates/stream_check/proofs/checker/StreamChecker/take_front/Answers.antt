use Rattle.std.proofs.Common.{◌≡◌, Some, set, take, ap, subst, ◌∙◌}
use Rattle.migration_model.specs.Frames.{GuestShape, PageFrame, SpellsFrame}
use Rattle.migration_model.specs.Final.{shape_of_trace}
use Rattle.page_message.specs.Shapes.{shape_of}
use Rattle.stream_check.specs.Checked.{Checked, checked_with}
use Rattle.stream_check.specs.Stamps.{greater, stamp_of}
use Rattle.stream_check.proofs.Fronts.{Takes-front, some_size}
use Rattle.stream_check.proofs.checker.StreamChecker.take_front.Goals as goal

pub returns-clause-taken : goal.returns-clause-taken
returns-clause-taken g c =
    let trace = g.W.WriteLog.trace c.args.trace.now in
    let frame : PageFrame = c.in_ok-view.view in
    let shape : shape_of c.self.inside.shape ≡ shape_of_trace trace =
    ap (λ (k : Checked). k.shape) c.self.view_is ∙ c.requires.shape in
    let page : c.view.inside.page ≡ frame.page = ap (λ (f : PageFrame). f.page) c.view.view_is in
    let stamp : c.view.inside.stamp ≡ frame.stamp = ap (λ (f : PageFrame). f.stamp) c.view.view_is in
    Takes-front trace c.args.self.now c.note.new.self c.args.bytes.now c.in_ok-view.size frame c.view.inside.page
    c.view.inside.stamp c.self.inside.stop c.last_of-last.result
    (subst (λ (s : GuestShape). SpellsFrame s (take c.in_ok-view.size c.args.bytes.now) frame) shape
    c.in_ok-view.ensures.found)
    c.in_ok-test_frame.ensures.right (ap (λ (k : Checked). k.stop) c.self.view_is)
    (c.last_of-last.ensures ∙ ap (stamp_of c.args.self.now.last) page) page stamp
    (c.note.ensures ∙ ap (λ (k : Checked). checked_with k.shape k.stop
    (set k.last c.view.inside.page (Some c.view.inside.stamp))
    (set k.greatest c.view.inside.page (Some (greater (stamp_of k.greatest c.view.inside.page) c.view.inside.stamp))))
    c.self.view_is)

pub returns-clause-some : goal.returns-clause-some
returns-clause-some g c =
    some_size (shape_of c.self.inside.shape) c.args.bytes.now c.in_ok-view.size c.in_ok-view.view
    c.in_ok-view.ensures.found
