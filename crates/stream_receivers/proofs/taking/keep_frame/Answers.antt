use Rattle.std.proofs.Common.{sym, subst}
use Rattle.migration_model.specs.Frames.{PageFrame, IsFrame, SpellsFrame}
use Rattle.stream_receivers.proofs.Viewed.{behind_head}
use Rattle.stream_receivers.proofs.taking.keep_frame.Goals as goal

pub frame_behind_head-frame-requires : goal.frame_behind_head-frame-requires
frame_behind_head-frame-requires c =
    (behind_head c.args.part.now.shape c.args.buffer.items c.args.page c.args.stamp c.requires).1

pub accept-requires : goal.accept-requires
accept-requires c =
    let kept = behind_head c.args.part.now.shape c.args.buffer.items c.args.page c.args.stamp c.requires in
    subst (λ (f : PageFrame). IsFrame c.args.part.now.shape f) (sym c.frame_behind_head-frame.ensures) kept.0.is_frame

pub returns-in-Ok-clause-taken : goal.returns-in-Ok-clause-taken
returns-in-Ok-clause-taken c =
    let kept = behind_head c.args.part.now.shape c.args.buffer.items c.args.page c.args.stamp c.requires in
    record {
      frame = c.frame_behind_head-frame.result;
      spells = subst (λ (f : PageFrame). SpellsFrame c.args.part.now.shape c.args.buffer.items f)
          (sym c.frame_behind_head-frame.ensures) kept.0;
      part = c.in-Ok.ensures.kept;
    }
