use Rattle.std.proofs.Common.{sym, arith}
use Rattle.page_message.specs.Shapes.{shape_of}
use Rattle.image_build.specs.Joins.{whole_with}
use Rattle.image_build.proofs.Joined.{HasFirst-more, HasPage-from_frame, IsJoined-from_all, refused_first}
use Rattle.image_build.proofs.joined_parts.JoinedParts.new.Goals as goal

pub returns-in_default-clause-refused : goal.returns-in_default-clause-refused
returns-in_default-clause-refused c =
    refused_first (whole_with (shape_of c.args.shape) c.args.parts.items) c.loop-page.page c.loop-page-test.true
    c.loop-page.invariant
    (sym (rw c.deref.ensures.value at c.in_default.ensures.copy))

pub loop-page-preserved : goal.loop-page-preserved
loop-page-preserved c =
    let whole = whole_with (shape_of c.args.shape) c.args.parts.items in
    HasFirst-more whole c.loop-page.page c.loop-page.invariant
    (HasPage-from_frame whole c.loop-page.page c.in-Some.field-0.now
    (sym (rw c.deref.ensures.value at c.in-Some.ensures.copy)) c.in-Some.ensures.fits)

pub returns-clause-joined : goal.returns-clause-joined
returns-clause-joined c =
    IsJoined-from_all (whole_with (shape_of c.args.shape) c.args.parts.items) c.loop-page.page c.loop-page.invariant
    (omega (arith, c.loop-page-test.false, c.loop-page.auto.page-end))
