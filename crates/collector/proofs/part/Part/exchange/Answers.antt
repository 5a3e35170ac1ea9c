use Rattle.std.proofs.Common.{◌≡◌, ◌≤◌, refl, ap, sym, subst, length, arith, ◌∙◌}
use Rattle.std.proofs.lemmas.Result.{err_from_is_err_and}
use Rattle.migration_model.specs.Frames.{GuestShape, PageFrame, IsFrame}
use Rattle.migration_model.specs.Parts.{part_with, GuestPart}
use Rattle.page_message.specs.Shapes.{shape_of}
use Rattle.collector.proofs.Tabled.{Grows-nothing, taken_new, taken_newer, same_part-grown}
use Rattle.collector.proofs.Tabled.{tabled_grown, tabled_new}
use Rattle.collector.proofs.Fated.{returned-table, swapped-table}
use Rattle.collector.proofs.part.Part.exchange.Goals as goal

pub returns-in_err-make_place-in-None-clause-unchanged :
    goal.returns-in_err-make_place-in-None-clause-unchanged
returns-in_err-make_place-in-None-clause-unchanged c =
    let p = err_from_is_err_and c.from_residual.result c.from_residual.ensures.1 in
    let grows = c.in_err-make_place-in-None.ensures.grows in
    let own : c.frame.inside.page ≡ c.args.frame.page = ap (λ (f : PageFrame). f.page) c.frame.view_is in
    let pages : c.self.inside.shape.pages ≡ c.args.self.now.shape.pages =
    ap (λ (g : GuestPart). g.shape.pages) c.self.view_is in
    let few : length c.make_place.new.table.items ≤ c.self.inside.shape.pages =
    omega (arith, grows.bound, c.self.invariant.few, c.requires.page) in
    rw p.1 (ap (part_with (shape_of c.self.inside.shape)) (same_part-grown (shape_of c.self.inside.shape) _ _ _ grows
    few) ∙ c.self.view_is)

pub returns-in_ok-make_place-in-None-clause-kept :
    goal.returns-in_ok-make_place-in-None-clause-kept
returns-in_ok-make_place-in-None-clause-kept c =
    let grows = c.in_ok-make_place-in-None.ensures.grows in
    let own : c.frame.inside.page ≡ c.args.frame.page = ap (λ (f : PageFrame). f.page) c.frame.view_is in
    let pages : c.self.inside.shape.pages ≡ c.args.self.now.shape.pages =
    ap (λ (g : GuestPart). g.shape.pages) c.self.view_is in
    taken_new (shape_of c.self.inside.shape) c.self.inside.frames.items c.make_place.new.table.items
    c.put_frame.new.table.items c.args.frame c.frame.inside.page c.args.self.now
    c.self.view_is grows (omega (arith, grows.bound, c.self.invariant.few, c.requires.page))
    (omega (arith, c.in_ok-make_place-in-None.ensures.place, c.make_place.new.table.ok.0)) own
    (rw c.deref.ensures.value at (sym c.in-None.ensures.stamp)) c.put_frame.ensures

pub returns-in-Some-clause-kept : goal.returns-in-Some-clause-kept
returns-in-Some-clause-kept c =
    let own : c.frame.inside.page ≡ c.args.frame.page = ap (λ (f : PageFrame). f.page) c.frame.view_is in
    let stamp : c.frame.inside.stamp ≡ c.args.frame.stamp = ap (λ (f : PageFrame). f.stamp) c.frame.view_is in
    taken_newer (shape_of c.self.inside.shape) c.self.inside.frames.items c.swap_frame.new.table.items c.args.frame
    c.frame.inside.page c.in-Some.stamp c.args.self.now
    c.self.view_is (omega (arith, c.in-Some.ensures.within, c.deref.ensures.len, c.self.inside.frames.ok.0)) own
    (rw c.deref.ensures.value at (sym c.in-Some.ensures.stamp)) (omega arith) c.swap_frame.ensures.put

pub invariant_of-self : goal.invariant_of-self
invariant_of-self c =
    let grows = c.in_err-make_place-in-None.ensures.grows in
    let own : c.frame.inside.page ≡ c.args.frame.page = ap (λ (f : PageFrame). f.page) c.frame.view_is in
    let pages : c.self.inside.shape.pages ≡ c.args.self.now.shape.pages =
    ap (λ (g : GuestPart). g.shape.pages) c.self.view_is in
    tabled_grown (shape_of c.self.inside.shape) c.self.inside.frames.items c.make_place.new.table.items
    c.frame.inside.page c.self.invariant grows (omega (arith, grows.bound, c.self.invariant.few, c.requires.page))

pub invariant_of-self-in-None : goal.invariant_of-self-in-None
invariant_of-self-in-None c =
    let grows = c.in_ok-make_place-in-None.ensures.grows in
    let own : c.frame.inside.page ≡ c.args.frame.page = ap (λ (f : PageFrame). f.page) c.frame.view_is in
    let shape = ap (λ (g : GuestPart). g.shape) c.self.view_is in
    let pages : c.self.inside.shape.pages ≡ c.args.self.now.shape.pages =
    ap (λ (g : GuestPart). g.shape.pages) c.self.view_is in
    tabled_new (shape_of c.self.inside.shape) c.self.inside.frames.items c.make_place.new.table.items
    c.put_frame.new.table.items c.args.frame c.frame.inside.page c.self.invariant grows
    (omega (arith, grows.bound, c.self.invariant.few, c.requires.page)) own
    (subst (λ (s : GuestShape). IsFrame s c.args.frame) (sym shape) c.requires) c.put_frame.ensures

pub invariant_of-self-then-stamp-frame : goal.invariant_of-self-then-stamp-frame
invariant_of-self-then-stamp-frame c =
    let old = c.self.inside.frames.items in
    let own : c.frame.inside.page ≡ c.args.frame.page = ap (λ (f : PageFrame). f.page) c.frame.view_is in
    let shape = ap (λ (g : GuestPart). g.shape) c.self.view_is in
    tabled_new (shape_of c.self.inside.shape) old old c.swap_frame.new.table.items c.args.frame c.frame.inside.page
    c.self.invariant (Grows-nothing old c.frame.inside.page) c.self.invariant.few own
    (subst (λ (s : GuestShape). IsFrame s c.args.frame) (sym shape) c.requires) c.swap_frame.ensures.put

pub returns-in-Some-clause-gone_frame : goal.returns-in-Some-clause-gone_frame
returns-in-Some-clause-gone_frame c =
    let own : c.frame.inside.page ≡ c.args.frame.page = ap (λ (f : PageFrame). f.page) c.frame.view_is in
    let stamp : c.frame.inside.stamp ≡ c.args.frame.stamp = ap (λ (f : PageFrame). f.stamp) c.frame.view_is in
    c.swap_frame.ensures.was ∙ rw (← own) (swapped-table (shape_of c.self.inside.shape) c.self.inside.frames.items
    c.frame.inside.page c.in-Some.stamp c.args.frame c.args.self.now c.self.invariant c.self.view_is
    (rw c.deref.ensures.value at (sym c.in-Some.ensures.stamp)) (omega arith))

pub returns-in-Some-2-clause-gone_frame : goal.returns-in-Some-2-clause-gone_frame
returns-in-Some-2-clause-gone_frame c =
    let own : c.frame.inside.page ≡ c.args.frame.page = ap (λ (f : PageFrame). f.page) c.frame.view_is in
    let stamp : c.frame.inside.stamp ≡ c.args.frame.stamp = ap (λ (f : PageFrame). f.stamp) c.frame.view_is in
    returned-table (shape_of c.self.inside.shape) c.self.inside.frames.items c.args.frame.page c.in-Some.stamp
    c.args.frame c.args.self.now c.self.view_is refl c.requires
    (rw (own, c.deref.ensures.value) at (sym c.in-Some.ensures.stamp)) (omega arith)
