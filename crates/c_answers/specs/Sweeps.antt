-- What C sees of sweeps, and why there is none.
use Rattle.std.specs.Prelude.{◌≡◌, ◌⊎◌, List, ◌∷◌, ◌++◌}
use Rattle.std.specs.List.{All}
use Rattle.migration_model.specs.Sweeps.{SweepLine}
use Rattle.c_layout.specs.Sums.{sums_of}
use Rattle.c_layout.specs.declared.sums.PlanSums.{PlanSums}
use Rattle.c_answers.specs.declared.answers.Refusal.{Refusal}
use Rattle.c_answers.specs.declared.answers.Refusal.TheVariants as refusals
use Rattle.c_answers.specs.declared.settings.SizedSettings.{SizedSettings}
use Rattle.c_answers.specs.Settings.{AreGiven, RefusesSettings}

-- a line of a sweep as C sees it: the sums of its plan
abbrev pub line_sums : SweepLine → PlanSums
line_sums line = sums_of line.outcome

-- the first case that is not as it must be is refused for this, and all before it are
pub record RefusesCase (cases : List SizedSettings) (refusal : Refusal) : Type 0 where
  pub before : List SizedSettings
  pub case : SizedSettings
  pub after : List SizedSettings
  pub parts : cases ≡ before ++ case ∷ after
  pub given : All AreGiven before
  pub refused : RefusesSettings case refusal

-- no lines are made: a case is refused, or else memory ran out
abbrev pub LacksSweep : List SizedSettings → Refusal → Type 0
LacksSweep cases refusal = RefusesCase cases refusal ⊎ (All AreGiven cases × (refusal ≡ refusals.Memory))
