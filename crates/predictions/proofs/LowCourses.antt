-- How large a course is.
use Rattle.std.proofs.Common.{◌≡◌, ℕ, ◌+◌, ◌≤◌, List, ap, arith, subst}
use Rattle.look_planner.specs.Laws.{AreLow}
use Rattle.look_planner.specs.Sums.{AreSums}
use Rattle.look_planner.specs.declared.sums.LookSums.{LookSums}
use Rattle.look_planner.proofs.Bounds.{low_sums_lem}
use Rattle.migration_model.specs.Looks.{AreHypervisorSettings, HypervisorSettings}
use Rattle.migration_model.specs.Rates.{MigrationSettings}
use Rattle.migration_model.specs.Touches.{GuestTouch}
use Rattle.predictions.specs.Courses.{course_settings}
use Rattle.predictions.specs.Courses.Ends.{course_of_looks, look_ending, stop_after}
use Rattle.predictions.specs.Units.Scales.{TraceScale}
use Rattle.predictions.specs.declared.course.Course.{Course}
use Rattle.predictions.specs.declared.course.CourseEnd.{CourseEnd}
use Rattle.predictions.specs.declared.course.CourseEnd.TheVariants.{Cut, Fast, Few, Fits, Level, Looks, Rounds}

stop_near : (ending : CourseEnd) (tick : ℕ) → stop_after ending tick ≤ tick + 1
stop_near Cut tick = omega arith
stop_near Few tick = omega arith
stop_near Fits tick = omega arith
stop_near Fast tick = omega arith
stop_near Rounds tick = omega arith
stop_near Looks tick = omega arith
stop_near Level tick = omega arith

-- no plan of looks sends more than a guest's pages in each of its 2,001 lists and at the stop
pub record IsLow (s : MigrationSettings) (course : Course) : Type 0 where
  pub total : course.total ≤ 131_203_072
  pub stop : course.stop ≤ s.start + 4_194_304_000
  pub down : course.down ≤ 65_536_000

pub low_looks : (pages : ℕ) (touches : List GuestTouch) (scale : TraceScale) (s : MigrationSettings) (last_tick : ℕ)
    (looks : HypervisorSettings) (sums : LookSums) (course : Course) → pages ≤ 65_536
    → looks ≡ course_settings scale s last_tick → AreHypervisorSettings looks → AreSums pages touches looks sums
    → course ≡ course_of_looks sums → IsLow s course
low_looks pages touches scale s last_tick looks sums course small settings in_range are is =
    let low : AreLow pages (course_settings scale s last_tick) sums =
    subst (λ (x : HypervisorSettings). AreLow pages x sums) settings
    (low_sums_lem pages touches looks sums small in_range are) in
    let near = stop_near (look_ending sums.end sums.shortens) sums.stop in
    record {
      total = omega (arith, ap (λ (c : Course). c.total) is, low.lists, low.looks);
      stop = omega (arith, ap (λ (c : Course). c.stop) is, near, low.stop_high);
      down = omega (arith, ap (λ (c : Course). c.down) is, low.down, low.left, small);
    }
