use Rattle.std.proofs.Common.{◌∙◌, get_or}
use Rattle.page_bitmap.specs.Pages.{in_words}
use Rattle.look_planner.proofs.DrawnPages.{place_left, place_marked}
use Rattle.look_planner.proofs.drawn.mark_places.Goals as goal

pub loop-place-preserved : goal.loop-place-preserved
loop-place-preserved c =
    let before = c.loop-place.invariant in
    let one = c.mark_place.ensures in
    record {
      len = one.len ∙ before.len;
      marked = place_marked (in_words c.args.places.now) (in_words c.loop-place.places)
          (in_words c.mark_place.new.places) (λ p. in_words c.args.marks.now (get_or c.args.drawn.now p 0))
          c.loop-place.place c.has_page.result c.has_page.ensures one.places before.marked before.others;
      others = place_left (in_words c.args.places.now) (in_words c.loop-place.places)
          (in_words c.mark_place.new.places) c.loop-place.place c.has_page.result one.places before.others;
    }
