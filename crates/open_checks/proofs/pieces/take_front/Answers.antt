use Rattle.std.proofs.Common.{◌≡◌, ◌+◌, ◌-◌, ◌<◌, ◌*◌, ◌^◌, ℕ, List, Option, get_or, set, max, take, refl, sym, ap}
use Rattle.std.proofs.Common.{subst}
use Rattle.std.proofs.Common.{◌∙◌, arith}
use Rattle.std.proofs.lemmas.Result.{err_from_is_err_and}
use Rattle.migration_model.specs.Frames.{GuestShape, PageFrame, SpellsFrame}
use Rattle.migration_model.specs.Memory.{put}
use Rattle.migration_model.specs.Versions.{page_at}
use Rattle.page_message.specs.Shapes.{shape_of}
use Rattle.stream_check.specs.Faults.{IsWrongFront}
use Rattle.stream_check.specs.Stamps.{stamp_of}
use Rattle.stream_check.proofs.Fronts.{Takes-front, some_size}
use Rattle.open_checks.specs.Kept.{known_by, stamps_in}
use Rattle.open_checks.proofs.Fronts.{front_wrong, same_shape}
use Rattle.open_checks.proofs.Kept.{IsKept-next}
use Rattle.open_checks.proofs.Words.{known_next, stamp_at}
use Rattle.open_checks.proofs.pieces.take_front.Goals as goal

pub returns-in_err-test_in_memory-clause-wrong : goal.returns-in_err-test_in_memory-clause-wrong
returns-in_err-test_in_memory-clause-wrong c =
    let trace = c.args.trace.now in
    let frame : PageFrame = c.in_ok-view.view in
    let last : List (Option ℕ) = stamps_in c.args.last.now in
    let shape = same_shape trace (shape_of c.shape.result) c.shape.ensures.shift c.shape.ensures.pages
    c.shape.ensures.writes in
    let page : c.view.inside.page ≡ frame.page = ap (λ (f : PageFrame). f.page) c.view.view_is in
    let spells = subst (λ (s : GuestShape). SpellsFrame s (take c.in_ok-view.size c.args.bytes.now) frame) shape
    c.in_ok-view.ensures.found in
    let came : c.stamp_of-came.result ≡ stamp_of last frame.page =
    c.stamp_of-came.ensures ∙ sym (stamp_at c.args.last.now c.view.inside.page) ∙ ap (stamp_of last) page in
    let p = err_from_is_err_and c.from_residual-in_err-test_in_memory.result
    c.from_residual-in_err-test_in_memory.ensures.1 in
    rw p.1 (subst (IsWrongFront trace c.args.stop last c.args.bytes.now) (sym p.2)
    (front_wrong trace c.args.stop last c.args.bytes.now frame c.in_ok-view.size c.stamp_of-came.result
    c.in_err-test_in_memory.field-0.0 spells came c.in_err-test_in_memory.ensures.wrong))

pub returns-clause-taken : goal.returns-clause-taken
returns-clause-taken c =
    let trace = c.args.trace.now in
    let frame : PageFrame = c.in_ok-view.view in
    let inside = c.view.inside in
    let last = c.args.last.now in
    let greatest = c.args.greatest.now in
    let known = known_by trace c.args.stop in
    let shape = same_shape trace (shape_of c.shape.result) c.shape.ensures.shift c.shape.ensures.pages
    c.shape.ensures.writes in
    let page : inside.page ≡ frame.page = ap (λ (f : PageFrame). f.page) c.view.view_is in
    let stamp : inside.stamp ≡ frame.stamp = ap (λ (f : PageFrame). f.stamp) c.view.view_is in
    let spells = subst (λ (s : GuestShape). SpellsFrame s (take c.in_ok-view.size c.args.bytes.now) frame) shape
    c.in_ok-view.ensures.found in
    let came : c.stamp_of-came.result ≡ stamp_of (stamps_in last) frame.page =
    c.stamp_of-came.ensures ∙ sym (stamp_at last inside.page) ∙ ap (stamp_of (stamps_in last)) page in
    Takes-front trace (known last greatest)
    (known (set last inside.page (inside.stamp + 1)) (set greatest inside.page c.max.result))
    c.args.bytes.now c.in_ok-view.size frame inside.page inside.stamp c.args.stop c.stamp_of-came.result spells
    c.in_ok-test_in_memory.ensures.right refl came page stamp
    (ap (λ (w : ℕ). known (set last inside.page (inside.stamp + 1)) (set greatest inside.page w)) c.max.ensures
    ∙ known_next trace c.args.stop last greatest inside.page inside.stamp)

pub returns-clause-some : goal.returns-clause-some
returns-clause-some c =
    some_size (shape_of c.shape.result) c.args.bytes.now c.in_ok-view.size c.in_ok-view.view c.in_ok-view.ensures.found

pub returns-clause-kept : goal.returns-clause-kept
returns-clause-kept c =
    let trace = c.args.trace.now in
    let frame : PageFrame = c.in_ok-view.view in
    let inside = c.view.inside in
    let greatest = c.args.greatest.now in
    let memory = c.args.memory.now in
    let page : inside.page ≡ frame.page = ap (λ (f : PageFrame). f.page) c.view.view_is in
    let stamp : inside.stamp ≡ frame.stamp = ap (λ (f : PageFrame). f.stamp) c.view.view_is in
    let low : frame.page < trace.pages =
    omega (arith, c.in_ok-view.ensures.found.is_frame.page, c.shape.ensures.pages) in
    let version : c.saturating_sub-version.result ≡ get_or greatest frame.page 0 - 1 =
    c.saturating_sub-version.ensures ∙ ap (λ (p : ℕ). get_or greatest p 0 - 1) page in
    IsKept-next trace greatest memory (set greatest inside.page c.max.result) c.test_in_memory.new.memory frame.page
    frame.stamp c.shape.ensures.is_trace c.requires.kept low c.in_ok-test_in_memory.ensures.right.right.version
    (ap (set greatest inside.page) c.max.ensures
    ∙ (λ i. set greatest (page i) (max (get_or greatest (page i) 0) (stamp i + 1))))
    (c.in_ok-test_in_memory.ensures.kept
    ∙ ap (λ (v : ℕ). put memory (frame.page * 2 ^ trace.shift) (page_at trace frame.page (max v frame.stamp))) version)
