-- At which shares of its link a migration has the same verdict. A hypervisor may reach less of a link than is asked,
-- and a verdict may turn more than once as the link shrinks: so each whole per cent is tried, down to 50. QEMU reached
-- 85 to 99. This project's own.
pub mod Texts
use Rattle.std.specs.Prelude.{◌≡◌, ◌⊎◌, ℕ, ◌-◌, ◌*◌, ◌/◌, ◌<◌, ◌≤◌, min, List, Option, None, Some}
use Rattle.std.specs.Option.{option_map}
use Rattle.migration_model.specs.Touches.{GuestTouch, last_tick_of}
use Rattle.predictions.specs.Courses.{course_verdict}
use Rattle.predictions.specs.Remedies.Trials.{IsTrialCourse, MakesSettings, MigrationTrial}
use Rattle.predictions.specs.declared.course.Course.{Course}
use Rattle.predictions.specs.declared.shares.share.LinkShare.{LinkShare}
use Rattle.predictions.specs.declared.verdict.Verdict.{Verdict}
use Rattle.predictions.specs.declared.verdict.Verdict.TheVariants as verdicts

-- a share of a link, in per cent and rounded down
abbrev pub link_at : ℕ → ℕ → ℕ
link_at link percent = link * percent / 100

-- a trial over a share of its link; its first round is as fast as it was, but no faster than that
abbrev pub over_share : MigrationTrial → ℕ → MigrationTrial
over_share trial percent = record trial {
  limits = record trial.limits {
    link = link_at trial.limits.link percent;
    first = option_map (λ first. min first (link_at trial.limits.link percent)) trial.limits.first;
  };
}

-- the plan of a trial's settings has this verdict
pub record HasVerdict (pages : ℕ) (touches : List GuestTouch) (trial : MigrationTrial) (verdict : Verdict) : Type
    0 where
  pub makes : MakesSettings trial
  pub course : Course
  pub is_course : IsTrialCourse pages touches trial course
  pub verdict_is : verdict ≡ course_verdict course (last_tick_of touches)

-- whether a trial converges: one whose limits make no settings does not
abbrev pub IsVerdict : ℕ → List GuestTouch → MigrationTrial → Verdict → Type 0
IsVerdict pages touches trial verdict = HasVerdict pages touches trial verdict
    ⊎ ((¬ MakesSettings trial) × (verdict ≡ verdicts.No))

-- whether a trial converges over a share of its link
abbrev pub VerdictAt : ℕ → List GuestTouch → MigrationTrial → ℕ → Verdict → Type 0
VerdictAt pages touches trial percent verdict = IsVerdict pages touches (over_share trial percent) verdict

-- the verdict below a share is another one; below a half of the link nothing is tried
abbrev pub TurnsBelow : (ℕ → Verdict → Type 0) → Verdict → ℕ → Option Verdict → Type 0
TurnsBelow At verdict share None = share ≡ 50
TurnsBelow At verdict share (Some other) = (50 < share) × (At (share - 1) other × ¬ (other ≡ verdict))

-- the least share of 50 to 100 per cent from which on each whole per cent has the verdict of all of the link
pub record IsLinkShare (At : ℕ → Verdict → Type 0) (found : LinkShare) : Type 0 where
  pub low : 50 ≤ found.share
  pub high : found.share ≤ 100
  pub same : (percent : ℕ) → found.share ≤ percent → percent ≤ 100 → At percent found.verdict
  pub turns : TurnsBelow At found.verdict found.share found.below
