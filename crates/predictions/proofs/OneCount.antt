-- The counts of draws are determined.
use Rattle.std.proofs.Common.{◌≡◌, ◌∙◌, ℕ, List, Option, Some, None, refl, sym, ap, subst}
use Rattle.migration_model.specs.Rates.{MigrationSettings}
use Rattle.migration_model.specs.Touches.{GuestTouch, last_tick_of}
use Rattle.predictions.specs.Agreements.{AreAskedCounts, AreCountsOf, AreDrawCounts, IsAgreement, asked_of_draws}
use Rattle.predictions.specs.Agreements.{counts_of}
use Rattle.predictions.specs.Redrawn.Draws.{draws_of}
use Rattle.predictions.specs.Units.Scales.{TraceScale}
use Rattle.predictions.specs.declared.course.Course.{Course}
use Rattle.predictions.specs.declared.course.Manner.{Manner}
use Rattle.predictions.specs.declared.agreement.counts.AnswerCounts.{AnswerCounts}
use Rattle.predictions.specs.declared.units.limits.Limits.{Limits}
use Rattle.predictions.specs.declared.agreement.verdicts.Agreement.{Agreement}
use Rattle.predictions.proofs.OneCourse.{one_course_lem}
use Rattle.predictions.proofs.OneError.{one_list}
use Rattle.predictions.proofs.Started.{one_start_counts}

one_of : (manner : Manner) (pages : ℕ) (touches : List GuestTouch) (s : MigrationSettings) (scale : TraceScale)
    (limits : Limits) (a b : AnswerCounts) → AreCountsOf manner pages touches s scale limits 20 a
    → AreCountsOf manner pages touches s scale limits 20 b → a ≡ b
one_of manner pages touches s scale limits a b x y =
    let same = one_list manner touches scale s (draws_of scale.sampled pages 20) x.courses y.courses x.redrawn
    y.redrawn in
    x.counts_are ∙ ap (λ (l : List Course). counts_of scale limits (last_tick_of touches) l) same ∙ sym y.counts_are

one_asked : (manner : Manner) (pages : ℕ) (touches : List GuestTouch) (s : MigrationSettings) (scale : TraceScale)
    (limits : Limits) (a b : AnswerCounts) → AreAskedCounts manner pages touches s scale limits a
    → AreAskedCounts manner pages touches s scale limits b → a ≡ b
one_asked manner pages touches s scale limits a b x y =
    let same = one_course_lem manner pages (last_tick_of touches) touches scale s x.course y.course x.comes_to
    y.comes_to in
    one_of manner pages touches (asked_of_draws y.course s) scale limits a b
    (subst (λ (c : Course). AreCountsOf manner pages touches (asked_of_draws c s) scale limits 20 a) same x.are_counts)
    y.are_counts

one_counts : (manner : Manner) (pages : ℕ) (touches : List GuestTouch) (s : MigrationSettings) (scale : TraceScale)
    (limits : Limits) (a b : Option AnswerCounts) → AreDrawCounts manner pages touches s scale limits a
    → AreDrawCounts manner pages touches s scale limits b → a ≡ b
one_counts manner pages touches s scale limits None None x y = refl
one_counts manner pages touches s scale limits None (Some b) x y = absurd (x y.0)
one_counts manner pages touches s scale limits (Some a) None x y = absurd (y x.0)
one_counts manner pages touches s scale limits (Some a) (Some b) x y =
    ap Some (one_asked manner pages touches s scale limits a b x.1 y.1)

pub one_agreement : (manner : Manner) (pages : ℕ) (touches : List GuestTouch) (s : MigrationSettings)
    (scale : TraceScale) (limits : Limits) (a b : Agreement) → IsAgreement manner pages touches s scale limits a
    → IsAgreement manner pages touches s scale limits b → a ≡ b
one_agreement manner pages touches s scale limits a b x y =
    let draws = one_counts manner pages touches s scale limits a.draws b.draws x.draws y.draws in
    let starts = one_start_counts manner pages touches s scale limits a.starts b.starts x.starts y.starts in
    λ i. record { draws = draws i; starts = starts i }
