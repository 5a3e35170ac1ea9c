use Rattle.std.proofs.Common.{◌≡◌, ◌∙◌, inl, inr, ap, sym, get_or, set, arith}
use Rattle.migration_model.specs.Frames.{PageFrame}
use Rattle.page_message.specs.Shapes.{shape_of}
use Rattle.c_answers.specs.FlatMemory.{flat_part, not_come}
use Rattle.c_answers.proofs.Flat.{came_with, flat_kept, flat_taken, others_kept, taken_later}
use Rattle.c_answers.proofs.flat_memory.accept_view.Goals as goal
use Rattle.c_answers.proofs.flat_memory.accept_view.Goals.{else-state-ne0-via-then-state-ne0+else-view-state}
use Rattle.c_answers.proofs.flat_memory.accept_view.Goals.{else-state-ne0-via-else-state-ne0}

pub returns-then-view-state-clause-kept : goal.returns-then-view-state-clause-kept
returns-then-view-state-clause-kept c =
    let frame = c.args.view.now in
    let page : c.view.inside.page ≡ frame.page = ap (λ (f : PageFrame). f.page) c.view.view_is in
    let stamp : c.view.inside.stamp ≡ frame.stamp = ap (λ (f : PageFrame). f.stamp) c.view.view_is in
    flat_kept (shape_of c.args.shape.now) c.args.memory.now c.args.states.now frame c.requires.fits
    (rw page at c.if-state-ne0.true) (rw (page, stamp) at c.if-view-state.true)

pub returns-clause-kept : goal.returns-clause-kept
returns-clause-kept c =
    let shape = shape_of c.args.shape.now in
    let frame = c.args.view.now in
    let page : c.view.inside.page ≡ frame.page = ap (λ (f : PageFrame). f.page) c.view.view_is in
    let stamp : c.view.inside.stamp ≡ frame.stamp = ap (λ (f : PageFrame). f.stamp) c.view.view_is in
    ap (λ (f : PageFrame). flat_part shape c.put_at_page.new.memory (set c.args.states.now f.page (came_with f.stamp)))
    c.view.view_is
    ∙ flat_taken shape c.args.memory.now c.put_at_page.new.memory c.args.states.now frame c.requires.flat
    c.requires.fits c.put_at_page.ensures
    (elim c.else-state-ne0.branch [
      | else-state-ne0-via-then-state-ne0+else-view-state w ↦ inr (rw (page, stamp) at w.if-view-state.false)
      | else-state-ne0-via-else-state-ne0 w ↦ inl (rw page at w.if-state-ne0.false)
    ])

pub returns-clause-later : goal.returns-clause-later
returns-clause-later c =
    let page : c.view.inside.page ≡ c.args.view.now.page = ap (λ (f : PageFrame). f.page) c.view.view_is in
    taken_later c.args.states.now c.view.inside.page c.view.inside.stamp
    (omega (arith, page, c.requires.fits.page, c.requires.flat.states_are))
    (elim c.else-state-ne0.branch [
      | else-state-ne0-via-then-state-ne0+else-view-state w ↦ inr w.if-view-state.false
      | else-state-ne0-via-else-state-ne0 w ↦ inl w.if-state-ne0.false
    ])

pub returns-clause-others : goal.returns-clause-others
returns-clause-others c page low none =
    others_kept (shape_of c.args.shape.now) c.args.memory.now c.put_at_page.new.memory c.args.states.now c.args.view.now
    c.requires.flat c.requires.fits c.put_at_page.ensures page low
    (sym (ap (λ (f : PageFrame). (get_or (set c.args.states.now f.page (came_with f.stamp)) page not_come).came)
    c.view.view_is) ∙ none)
