use Rattle.std.proofs.Common.{◌<◌, ◌^◌, sym, ap, subst, ◌∙◌}
use Rattle.migration_model.specs.Frames.{GuestShape}
use Rattle.migration_model.specs.Parts.{copy_in}
use Rattle.image_build.specs.Joins.{IsWhole, WholeParts}
use Rattle.image_build.proofs.Joined.{page_by, shape-join_all}
use Rattle.image_build.proofs.joined_parts.JoinedParts.page_into.Goals as goal

pub frame-requires : goal.frame-requires
frame-requires c = subst (λ (s : GuestShape). c.args.page < s.pages)
    (shape-join_all c.args.self.now.shape c.args.self.now.parts) c.requires.page

pub put_body-requires-clause-room : goal.put_body-requires-clause-room
put_body-requires-clause-room c =
    c.requires.room ∙ ap (λ (s : GuestShape). 2 ^ s.shift) (shape-join_all c.args.self.now.shape c.args.self.now.parts
    ∙ sym (ap (λ (w : WholeParts). w.shape) c.self.view_is))

pub returns : goal.returns
returns c =
    let whole = c.args.self.now in
    let low = subst (λ (s : GuestShape). c.args.page < s.pages) (shape-join_all whole.shape whole.parts)
    c.requires.page in
    c.put_body.ensures ∙ ap (λ (s : GuestShape). (copy_in s c.frame.result.now).content)
    (ap (λ (w : WholeParts). w.shape) c.self.view_is)
    ∙ sym (page_by whole c.args.page (copy_in whole.shape c.frame.result.now)
    (subst IsWhole c.self.view_is c.self.invariant) low c.frame.ensures.copy)
