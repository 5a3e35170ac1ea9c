-- The plan of a trial decides whether it reaches an aim.
use Rattle.std.proofs.Common.{◌≡◌, ◌↔◌, ℕ, List, Bool, sym, subst}
use Rattle.std.specs.Prelude.{IsTrue}
use Rattle.migration_model.specs.Rates.{MigrationSettings}
use Rattle.migration_model.specs.Touches.{GuestTouch, last_tick_of}
use Rattle.predictions.specs.Courses.{IsCourseOver}
use Rattle.predictions.specs.Remedies.Trials.{ComesTo, IsTrialCourse, MakesSettings, MigrationTrial, Reaches}
use Rattle.predictions.specs.Remedies.Trials.{settings_of}
use Rattle.predictions.specs.declared.course.Course.{Course}
use Rattle.predictions.specs.declared.remedies.aim.Aim.{Aim}
use Rattle.predictions.proofs.OneCourse.{one_course_lem}

-- what the plan of a trial comes to is determined
pub one_trial_course : (pages : ℕ) (touches : List GuestTouch) (t : MigrationTrial) (a b : Course)
    → IsTrialCourse pages touches t a → IsTrialCourse pages touches t b → a ≡ b
one_trial_course pages touches t a b x y =
    one_course_lem t.manner pages (last_tick_of touches) touches t.scale (settings_of t) a b x y

-- the course of the settings that a trial makes is that of the trial
pub trial_course : (pages : ℕ) (touches : List GuestTouch) (t : MigrationTrial) (s : MigrationSettings)
    (course : Course) → s ≡ settings_of t → IsCourseOver t.manner pages touches t.scale s course
    → IsTrialCourse pages touches t course
trial_course pages touches t s course made is =
    subst (λ (u : MigrationSettings). IsCourseOver t.manner pages touches t.scale u course) made is

pub decided : (aim : Aim) (pages : ℕ) (touches : List GuestTouch) (t : MigrationTrial) (s : MigrationSettings)
    (course : Course) (last : ℕ) (b : Bool) → MakesSettings t → s ≡ settings_of t
    → IsCourseOver t.manner pages touches t.scale s course → last ≡ last_tick_of touches
    → IsTrue b ↔ ComesTo aim t course last → IsTrue b ↔ Reaches aim pages touches t
decided aim pages touches t s course last b makes made is ended h =
    let planned = trial_course pages touches t s course made is in (
      λ yes. record {
        makes = makes;
        course = course;
        is_course = planned;
        comes = subst (ComesTo aim t course) ended (h.0 yes);
      },
      λ reaches. h.1 (subst (λ (n : ℕ). ComesTo aim t course n) (sym ended)
          (subst (λ (c : Course). ComesTo aim t c (last_tick_of touches))
          (one_trial_course pages touches t reaches.course course reaches.is_course planned) reaches.comes)),
    )
