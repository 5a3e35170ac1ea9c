use Rattle.std.proofs.Common.{◌≡◌, ap}
use Rattle.migration_model.specs.Frames.{PageFrame}
use Rattle.migration_model.specs.Versions.{page_at}
use Rattle.stream_check.proofs.Held.{has_page_is}
use Rattle.open_checks.proofs.frames.has_page.Goals as goal

pub returns-clause-has : goal.returns-clause-has
returns-clause-has c =
    let trace = c.args.trace.now in
    let page : c.view.inside.page ≡ c.args.view.now.page = ap (λ (f : PageFrame). f.page) c.view.view_is in
    let stamp : c.view.inside.stamp ≡ c.args.view.now.stamp = ap (λ (f : PageFrame). f.stamp) c.view.view_is in
    let made : c.turn_page.new.content ≡ page_at trace c.args.view.now.page c.args.view.now.stamp =
    cc (c.turn_page.ensures, page, stamp) in
    has_page_is trace c.args.view.now c.turn_page.new.content c.has_bytes-has.result c.shape.ensures.is_trace
    c.requires.fits made c.has_bytes-has.ensures
