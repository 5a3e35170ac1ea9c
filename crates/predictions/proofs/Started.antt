-- Plans from one start after another.
use Rattle.std.proofs.Common.{◌≡◌, ◌∙◌, ℕ, ◌+◌, List, [], ◌∷◌, ◌++◌, map, refl, sym, ap, subst, arith}
use Rattle.std.proofs.lemmas.List.FromFn.{map-range_with_len_more}
use Rattle.std.specs.List.{AllZip, range_with_len}
use Rattle.migration_model.specs.Rates.{MigrationSettings}
use Rattle.migration_model.specs.Touches.{GuestTouch, last_tick_of}
use Rattle.predictions.specs.Agreements.{AreStartCounts, AreStarted, counts_of, of_known, spread_case}
use Rattle.predictions.specs.Courses.{IsCourseOver}
use Rattle.predictions.specs.Starts.Ranges.{spread_starts}
use Rattle.predictions.specs.Starts.{count_of}
use Rattle.predictions.specs.Units.Scales.{TraceScale}
use Rattle.predictions.specs.declared.agreement.counts.AnswerCounts.{AnswerCounts}
use Rattle.predictions.specs.declared.course.Course.{Course}
use Rattle.predictions.specs.declared.course.Manner.{Manner}
use Rattle.predictions.specs.declared.units.limits.Limits.{Limits}
use Rattle.predictions.proofs.Drawing.{zip_push}
use Rattle.predictions.proofs.OneCourse.{one_course_lem}

-- the counts of the first starts
pub record HaveCounts (manner : Manner) (pages : ℕ) (touches : List GuestTouch) (s : MigrationSettings)
    (scale : TraceScale) (limits : Limits) (count : ℕ) (counts : AnswerCounts) : Type 0 where
  pub courses : List Course
  pub started : AreStarted manner pages touches scale s count courses
  pub counts_are : counts ≡ counts_of scale limits (last_tick_of touches) courses

-- one more start
pub started_more : (manner : Manner) (pages : ℕ) (touches : List GuestTouch) (scale : TraceScale)
    (s : MigrationSettings) (n last : ℕ) (case : MigrationSettings) (courses : List Course) (course : Course)
    → last ≡ last_tick_of touches → case ≡ spread_case s last n → AreStarted manner pages touches scale s n courses
    → IsCourseOver manner pages touches scale case course
    → AreStarted manner pages touches scale s (n + 1) (courses ++ course ∷ [])
started_more manner pages touches scale s n last case courses course tick is before one =
    let f : ℕ → MigrationSettings = spread_case s (last_tick_of touches) in
    let R : MigrationSettings → Course → Type 0 = IsCourseOver manner pages touches scale in
    let more : map f (range_with_len 0 (n + 1)) ≡ map f (range_with_len 0 n) ++ f n ∷ [] =
    map-range_with_len_more f 0 n n (omega arith) in
    let at : case ≡ f n = is ∙ ap (λ (l : ℕ). spread_case s l n) tick in
    let here : R (f n) course = subst (λ (some : MigrationSettings). R some course) at one in
    subst (λ (cases : List MigrationSettings). AllZip R cases (courses ++ course ∷ [])) (sym more)
    (zip_push R (map f (range_with_len 0 n)) courses (f n) course before here)

-- what plans come to is determined
one_list : (manner : Manner) (pages : ℕ) (touches : List GuestTouch) (scale : TraceScale)
    (cases : List MigrationSettings) (a b : List Course) → AllZip (IsCourseOver manner pages touches scale) cases a
    → AllZip (IsCourseOver manner pages touches scale) cases b → a ≡ b
one_list manner pages touches scale [] [] [] x y = refl
one_list manner pages touches scale [] [] (b ∷ others) x y = elim y [ ]
one_list manner pages touches scale [] (a ∷ more) b x y = elim x [ ]
one_list manner pages touches scale (d ∷ ds) [] b x y = elim x [ ]
one_list manner pages touches scale (d ∷ ds) (a ∷ more) [] x y = elim y [ ]
one_list manner pages touches scale (d ∷ ds) (a ∷ more) (b ∷ others) x y =
    let first = one_course_lem manner pages (last_tick_of touches) touches scale d a b x.0 y.0 in
    let rest = one_list manner pages touches scale ds more others x.1 y.1 in
    λ i. first i ∷ rest i

pub one_start_counts : (manner : Manner) (pages : ℕ) (touches : List GuestTouch) (s : MigrationSettings)
    (scale : TraceScale) (limits : Limits) (a b : AnswerCounts)
    → AreStartCounts manner pages touches s scale limits a → AreStartCounts manner pages touches s scale limits b
    → a ≡ b
one_start_counts manner pages touches s scale limits a b x y =
    let last = last_tick_of touches in
    let cases = map (spread_case s last) (range_with_len 0 (count_of (spread_starts s last) last)) in
    let same = one_list manner pages touches scale cases x.courses y.courses x.started y.started in
    x.counts_are ∙ ap (λ (l : List Course). of_known (counts_of scale limits last l)) same ∙ sym y.counts_are
