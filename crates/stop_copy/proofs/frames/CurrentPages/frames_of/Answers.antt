use Rattle.std.proofs.Common.{get_or, subst, sym, arith}
use Rattle.std.proofs.lemmas.List.{get_or_default}
use Rattle.migration_model.specs.Frames.{PageFrame}
use Rattle.std.proofs.Common.{List}
use Rattle.std.proofs.Common.{take, ◌+◌}
use Rattle.stop_copy.specs.Copies.{AreCurrentFrames}
use Rattle.stop_copy.proofs.Framed.{AreCurrentFrames-more}
use Rattle.stop_copy.proofs.frames.CurrentPages.frames_of.Goals as goal

pub loop-page-preserved : goal.loop-page-preserved
loop-page-preserved g c =
    let pages = c.args.pages.now in
    let i = c.loop-page.page-index in
    let page = get_or pages i 0 in
    subst (λ (frames : List PageFrame). AreCurrentFrames (g.W.WriteLog.trace c.args.self.now.trace.now)
    c.args.self.now.versions.now (take (i + 1) pages) frames) (sym c.in_ok-push.ensures.items)
    (AreCurrentFrames-more (g.W.WriteLog.trace c.args.self.now.trace.now) c.args.self.now.versions.now pages i page
    c.loop-page.frames.items c.in_ok-frame_at.field-0 (omega (arith, c.loop-page-test.true))
    (get_or_default pages i 0 page (omega (arith, c.loop-page-test.true))) c.loop-page.invariant
    c.in_ok-frame_at.ensures.frame c.in_ok-frame_at.ensures.own)
