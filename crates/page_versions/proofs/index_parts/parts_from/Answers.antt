use Rattle.std.proofs.Common.{arith}
use Rattle.std.proofs.lemmas.List.Sorted.{All-permutation}
use Rattle.migration_model.specs.Touches.{AreTouches}
use Rattle.page_versions.specs.Runs.{AreSortedRuns, IsRun, places_through}
use Rattle.page_versions.proofs.Orders.{laid_out}
use Rattle.page_versions.proofs.Sorted.{length-sorted, same_places}
use Rattle.page_versions.proofs.index_parts.parts_from.Goals as goal

pub lay_out-requires-clause-few : goal.lay_out-requires-clause-few
lay_out-requires-clause-few g c =
    let pages = g.T.Timeline.pages c.args.timeline.now in
    let touches = g.T.Timeline.touches c.args.timeline.now in
    let fits : AreTouches pages touches = c.requires.fits in
    let sorted : AreSortedRuns pages touches c.args.runs.now = c.requires.sorted in
    omega (arith, length-sorted pages touches sorted.before c.args.runs.now sorted.are sorted.same, fits.few)

pub lay_out-requires-clause-each : goal.lay_out-requires-clause-each
lay_out-requires-clause-each g c =
    let pages = g.T.Timeline.pages c.args.timeline.now in
    let touches = g.T.Timeline.touches c.args.timeline.now in
    let sorted : AreSortedRuns pages touches c.args.runs.now = c.requires.sorted in
    rw c.page_count-pages.ensures.pages
    (All-permutation (IsRun pages) sorted.before c.args.runs.now sorted.same sorted.are.each)

pub lay_out-requires-clause-rising : goal.lay_out-requires-clause-rising
lay_out-requires-clause-rising g c = c.requires.sorted.by_page.pages

pub returns : goal.returns
returns g c =
    let pages = g.T.Timeline.pages c.args.timeline.now in
    let touches = g.T.Timeline.touches c.args.timeline.now in
    let runs = c.args.runs.now in
    let sorted : AreSortedRuns pages touches runs = c.requires.sorted in
    let parts = c.in_ok-lay_out.field-0 in
    laid_out pages touches (places_through runs) parts.starts.items parts.places.items c.requires.fits
    (same_places pages touches sorted.before runs sorted.are sorted.same sorted.by_page)
    (rw c.page_count-pages.ensures.pages at c.in_ok-lay_out.ensures.starts) c.in_ok-lay_out.ensures.places
