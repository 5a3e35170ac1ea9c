use Rattle.std.proofs.Common.{◌≡◌, ◌∙◌, ap, arith, length, subst}
use Rattle.look_planner.specs.DrawnPages.{redrawn_touches}
use Rattle.look_planner.specs.Sums.{AreSums}
use Rattle.look_planner.proofs.Bounds.{low_sums_lem}
use Rattle.migration_model.specs.Looks.{HypervisorSettings}
use Rattle.migration_model.specs.Touches.{last_tick_of}
use Rattle.predictions.specs.Courses.{course_settings}
use Rattle.predictions.proofs.LowCourses.{IsLow, low_looks}
use Rattle.predictions.proofs.redrawn.courses.redrawn_looks.Goals as goal

pub of_sums-requires : goal.of_sums-requires
of_sums-requires g c =
    let drawn = c.args.drawn.now in
    let all = redrawn_touches drawn (g.T.Timeline.touches c.args.timeline.now) in
    let settings = c.course_settings-looks.ensures in
    let low = low_sums_lem (length drawn) all c.course_settings-looks.result c.redrawn_sums-sums.result
    c.requires.drawn.few settings.in_range c.redrawn_sums-sums.ensures in
    omega (arith, low.stop_high, settings.in_range.end_high)

pub returns-clause-course : goal.returns-clause-course
returns-clause-course g c =
    let touches = g.T.Timeline.touches c.args.timeline.now in
    let drawn = c.args.drawn.now in
    let all = redrawn_touches drawn touches in
    let looks : c.course_settings-looks.result
    ≡ course_settings c.args.scale.now c.args.settings.now (last_tick_of touches) =
    c.course_settings-looks.ensures.settings
    ∙ ap (course_settings c.args.scale.now c.args.settings.now) c.last_tick.ensures.value in (
      c.redrawn_sums-sums.result,
      subst (λ (x : HypervisorSettings). AreSums (length drawn) all x c.redrawn_sums-sums.result) looks
          c.redrawn_sums-sums.ensures,
      c.of_sums.ensures,
    )

pub returns-clause-total : goal.returns-clause-total
returns-clause-total g c =
    let low : IsLow c.args.settings.now c.of_sums.result =
    low_looks (length c.args.drawn.now) (redrawn_touches c.args.drawn.now (g.T.Timeline.touches c.args.timeline.now))
    c.args.scale.now c.args.settings.now c.last_tick.result c.course_settings-looks.result c.redrawn_sums-sums.result
    c.of_sums.result c.requires.drawn.few c.course_settings-looks.ensures.settings
    c.course_settings-looks.ensures.in_range c.redrawn_sums-sums.ensures c.of_sums.ensures in
    low.total

pub returns-clause-stop : goal.returns-clause-stop
returns-clause-stop g c =
    let low : IsLow c.args.settings.now c.of_sums.result =
    low_looks (length c.args.drawn.now) (redrawn_touches c.args.drawn.now (g.T.Timeline.touches c.args.timeline.now))
    c.args.scale.now c.args.settings.now c.last_tick.result c.course_settings-looks.result c.redrawn_sums-sums.result
    c.of_sums.result c.requires.drawn.few c.course_settings-looks.ensures.settings
    c.course_settings-looks.ensures.in_range c.redrawn_sums-sums.ensures c.of_sums.ensures in
    low.stop

pub returns-clause-down : goal.returns-clause-down
returns-clause-down g c =
    let low : IsLow c.args.settings.now c.of_sums.result =
    low_looks (length c.args.drawn.now) (redrawn_touches c.args.drawn.now (g.T.Timeline.touches c.args.timeline.now))
    c.args.scale.now c.args.settings.now c.last_tick.result c.course_settings-looks.result c.redrawn_sums-sums.result
    c.of_sums.result c.requires.drawn.few c.course_settings-looks.ensures.settings
    c.course_settings-looks.ensures.in_range c.redrawn_sums-sums.ensures c.of_sums.ensures in
    low.down
