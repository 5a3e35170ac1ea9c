use Rattle.std.proofs.Common.{◌≡◌, ℕ, [], length, IfOk, refl, sym, ap, subst, ◌∙◌, append-nil}
use Rattle.std.proofs.Common.{arith}
use Rattle.migration_model.specs.Frames.{GuestShape, PageFrame, IsFrame, frame_text}
use Rattle.stream_receivers.proofs.Viewed.{never_both}
use Rattle.stream_receivers.proofs.taking.accept_frame.Goals as goal

pub returns-in_default-clause-only : goal.returns-in_default-clause-only
returns-in_default-clause-only c frame spells =
    absurd (never_both c.view_frame.result (frame, length (frame_text frame)) c.in_default.field-0
    (c.view_frame.ensures.only frame []
    (subst (λ (s : GuestShape). IsFrame s frame) (sym c.shape.ensures.shape) spells.is_frame)
    (c.deref.ensures.value ∙ spells.text ∙ sym (append-nil (frame_text frame)))) c.in_default.is)

pub returns-then-size-len-clause-only : goal.returns-then-size-len-clause-only
returns-then-size-len-clause-only c frame spells =
    let good = c.view_frame.ensures.only frame []
    (subst (λ (s : GuestShape). IsFrame s frame) (sym c.shape.ensures.shape) spells.is_frame)
    (c.deref.ensures.value ∙ spells.text ∙ sym (append-nil (frame_text frame))) in
    let size : c.in-Ok.size ≡ length (frame_text frame) =
    subst (λ r. IfOk r (λ (read : PageFrame × ℕ). read.1 ≡ length (frame_text frame))) (sym good ∙ c.in-Ok.is) refl in
    let whole : length c.args.buffer.items ≡ length (frame_text frame) = ap length spells.text in
    absurd (c.if-size-len.true (let same : c.in-Ok.size
    ≡ c.len.result = omega (arith, size, whole, c.len.ensures) in same))
