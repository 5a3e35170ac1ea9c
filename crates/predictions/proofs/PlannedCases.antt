-- The cases of some settings, one after another, and that they are determined.
use Rattle.std.proofs.Common.{◌≡◌, ◌∙◌, ◌+◌, ◌<◌, ℕ, List, [], ◌∷◌, ◌++◌, length, get_or, take, refl, ap, sym, subst}
use Rattle.std.proofs.lemmas.List.{take_more}
use Rattle.migration_model.specs.Rates.{MigrationSettings}
use Rattle.migration_model.specs.Touches.{GuestTouch, last_tick_of}
use Rattle.predictions.specs.Courses.{IsCourseOver}
use Rattle.predictions.specs.Starts.Cases.{AreCases, IsCaseOf}
use Rattle.predictions.specs.Units.Scales.{TraceScale}
use Rattle.predictions.specs.declared.course.Course.{Course}
use Rattle.predictions.specs.declared.course.Manner.{Manner}
use Rattle.predictions.specs.declared.starts.planned.PlannedCase.{PlannedCase}
use Rattle.predictions.proofs.Drawing.{zip_push}
use Rattle.predictions.proofs.OneCourse.{one_course_lem}

abbrev case_with : MigrationSettings → Course → PlannedCase
case_with settings course = record { settings = settings; course = course }

-- the case of one more of the settings
pub cases_more : (manner : Manner) (pages n : ℕ) (touches : List GuestTouch) (scale : TraceScale)
    (settings : List MigrationSettings) (cases new : List PlannedCase) (s : MigrationSettings) (course : Course)
    → n < length settings → s ≡ get_or settings n s → new ≡ cases ++ case_with s course ∷ []
    → AreCases manner pages touches scale (take n settings) cases → IsCourseOver manner pages touches scale s course
    → AreCases manner pages touches scale (take (n + 1) settings) new
cases_more manner pages n touches scale settings cases new s course low is pushed before made =
    let R : MigrationSettings → PlannedCase → Type 0 = IsCaseOf manner pages touches scale in
    let more : take (n + 1) settings ≡ take n settings ++ s ∷ [] = take_more settings n s low
    ∙ ap (λ (some : MigrationSettings). take n settings ++ some ∷ []) (sym is) in
    let C : List MigrationSettings → Type 0 = λ ss. AreCases manner pages touches scale ss new in
    let D : List PlannedCase → Type 0 = λ cs. AreCases manner pages touches scale (take n settings ++ s ∷ []) cs in
    let one : R s (case_with s course) = record { settings_are = refl; is_course = made } in
    subst C (sym more) (subst D (sym pushed) (zip_push R (take n settings) cases s (case_with s course) before one))

-- a case of some settings is determined
one_case : (manner : Manner) (pages : ℕ) (touches : List GuestTouch) (scale : TraceScale) (s : MigrationSettings)
    (a b : PlannedCase) → IsCaseOf manner pages touches scale s a → IsCaseOf manner pages touches scale s b → a ≡ b
one_case manner pages touches scale s a b x y =
    let settings = x.settings_are ∙ sym y.settings_are in
    let course =
    one_course_lem manner pages (last_tick_of touches) touches scale s a.course b.course x.is_course y.is_course in
    λ i. record { settings = settings i; course = course i }

pub one_list_of_cases_lem : (manner : Manner) (pages : ℕ) (touches : List GuestTouch) (scale : TraceScale)
    (settings : List MigrationSettings) (a b : List PlannedCase) → AreCases manner pages touches scale settings a
    → AreCases manner pages touches scale settings b → a ≡ b
one_list_of_cases_lem manner pages touches scale [] [] [] x y = refl
one_list_of_cases_lem manner pages touches scale [] [] (b ∷ others) x y = elim y [ ]
one_list_of_cases_lem manner pages touches scale [] (a ∷ more) b x y = elim x [ ]
one_list_of_cases_lem manner pages touches scale (s ∷ ss) [] b x y = elim x [ ]
one_list_of_cases_lem manner pages touches scale (s ∷ ss) (a ∷ more) [] x y = elim y [ ]
one_list_of_cases_lem manner pages touches scale (s ∷ ss) (a ∷ more) (b ∷ others) x y =
    let first = one_case manner pages touches scale s a b x.0 y.0 in
    let rest = one_list_of_cases_lem manner pages touches scale ss more others x.1 y.1 in
    λ i. first i ∷ rest i
