-- The standard errors of a plan are determined.
use Rattle.std.proofs.Common.{◌≡◌, ◌∙◌, ◌-◌, ◌*◌, ℕ, List, [], ◌∷◌, Option, Some, None, length, map, refl, sym}
use Rattle.std.proofs.Common.{ap, arith, subst}
use Rattle.migration_model.specs.Rates.{MigrationSettings}
use Rattle.migration_model.specs.Touches.{GuestTouch, last_tick_of}
use Rattle.predictions.specs.Redrawn.Draws.{draws_of}
use Rattle.predictions.specs.Redrawn.Errors.{AreErrors, AreErrorsOf, AreRedrawn, IsErrorOf, SampleErrors, pause_of}
use Rattle.predictions.specs.Redrawn.Errors.{time_of}
use Rattle.look_planner.specs.DrawnPages.{redrawn_touches}
use Rattle.predictions.specs.Units.Scales.{TraceScale}
use Rattle.predictions.specs.declared.course.Course.{Course}
use Rattle.predictions.specs.declared.course.Manner.{Manner}
use Rattle.predictions.proofs.OneCourse.{one_course_lem}

pub one_list : (manner : Manner) (touches : List GuestTouch) (scale : TraceScale) (s : MigrationSettings)
    (draws : List (List ℕ)) (a b : List Course) → AreRedrawn manner touches scale s draws a
    → AreRedrawn manner touches scale s draws b → a ≡ b
one_list manner touches scale s [] [] [] x y = refl
one_list manner touches scale s [] [] (b ∷ others) x y = elim y [ ]
one_list manner touches scale s [] (a ∷ more) b x y = elim x [ ]
one_list manner touches scale s (d ∷ ds) [] b x y = elim x [ ]
one_list manner touches scale s (d ∷ ds) (a ∷ more) [] x y = elim y [ ]
one_list manner touches scale s (d ∷ ds) (a ∷ more) (b ∷ others) x y =
    let first = one_course_lem manner (length d) (last_tick_of touches) (redrawn_touches d touches) scale s a b x.0
    y.0 in
    let rest = one_list manner touches scale s ds more others x.1 y.1 in
    λ i. first i ∷ rest i

one_error : (numbers : List ℕ) (upper lower a b : ℕ) → IsErrorOf numbers upper lower a
    → IsErrorOf numbers upper lower b → a ≡ b
one_error numbers upper lower a b x y =
    let below = x.least b y.enough in
    let above = y.least a x.enough in
    omega (arith, below, above)

one_of : (manner : Manner) (pages : ℕ) (touches : List GuestTouch) (s : MigrationSettings) (scale : TraceScale)
    (a b : SampleErrors) → AreErrorsOf manner pages touches s scale a → AreErrorsOf manner pages touches s scale b
    → a ≡ b
one_of manner pages touches s scale a b x y =
    let same = one_list manner touches scale s (draws_of scale.sampled pages 20) x.courses y.courses x.redrawn
    y.redrawn in
    let upper = (scale.guest - scale.sampled) * scale.guest in
    let lower = scale.sampled * scale.sampled in
    let left = scale.guest - scale.sampled in
    let sent = one_error (map (λ course. course.total) y.courses) upper lower x.sent y.sent
    (subst (λ (l : List Course). IsErrorOf (map (λ course. course.total) l) upper lower x.sent) same x.sent_is)
    y.sent_is in
    let bytes : a.bytes ≡ b.bytes = x.bytes_is ∙ ap (λ n. n * scale.page) sent ∙ sym y.bytes_is in
    let time = one_error (map (time_of scale s) y.courses) left scale.guest a.time b.time
    (subst (λ (l : List Course). IsErrorOf (map (time_of scale s) l) left scale.guest a.time) same x.time_is)
    y.time_is in
    let down = one_error (map (pause_of scale) y.courses) left scale.guest a.downtime b.downtime
    (subst (λ (l : List Course). IsErrorOf (map (pause_of scale) l) left scale.guest a.downtime) same x.downtime_is)
    y.downtime_is in
    λ i. record { bytes = bytes i; time = time i; downtime = down i }

pub one_errors : (manner : Manner) (pages : ℕ) (touches : List GuestTouch) (s : MigrationSettings)
    (scale : TraceScale) (a b : Option SampleErrors) → AreErrors manner pages touches s scale a
    → AreErrors manner pages touches s scale b → a ≡ b
one_errors manner pages touches s scale None None x y = refl
one_errors manner pages touches s scale None (Some b) x y = absurd (x y.0)
one_errors manner pages touches s scale (Some a) None x y = absurd (y x.0)
one_errors manner pages touches s scale (Some a) (Some b) x y =
    ap Some (one_of manner pages touches s scale a b x.1 y.1)
