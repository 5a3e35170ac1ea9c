-- Lines of a sweep on their way. No contract of a public call cites it.
use Rattle.std.specs.Prelude.{◌≡◌, ℕ, ◌<◌, Option, IfSome, Result, IfOk, IfErr, Vec, List, length, slice_index_or}
use Rattle.std.specs.Global.{Global}
use Rattle.std.specs.List.{All}
use Rattle.migration_model.specs.Rates.{MigrationSettings}
use Rattle.migration_model.specs.Sweeps.{SweepLine, IsLineOf}
use Rattle.migration_model.specs.Touches.{GuestTouch}
use Rattle.sweep_report.specs.declared.error.SweepError.{SweepError}
use Rattle.sweep_report.specs.declared.error.SweepError.TheVariants.{Memory}
use Rattle.sweep_report.specs.declared.sweeping.CaseLine.{CaseLine}

-- the case of a line is that of its number
pub record IsNumbered (pages : ℕ) (touches : List GuestTouch) (cases : List MigrationSettings)
    (made : CaseLine) : Type 0 where
  pub low : made.number < length cases
  pub line : (d : MigrationSettings) → IsLineOf pages touches (slice_index_or cases made.number d) made.line

abbrev pub AreNumbered : ℕ → List GuestTouch → List MigrationSettings → List CaseLine → Type 0
AreNumbered pages touches cases made = All (IsNumbered pages touches cases) made

-- there is a slot for the line of each case, and a line in a slot is that case's
pub record AreTaken (pages : ℕ) (touches : List GuestTouch) (cases : List MigrationSettings)
    (taken : List (Option SweepLine)) : Type 0 where
  pub len : length taken ≡ length cases
  pub each : (k : ℕ) (d : MigrationSettings) (e : Option SweepLine) → k < length cases
      → IfSome (slice_index_or taken k e) (IsLineOf pages touches (slice_index_or cases k d))

-- what a worker made, or memory ran out
pub record IsWork (pages : ℕ) (touches : List GuestTouch) (cases : List MigrationSettings)
    (made : Result (Vec CaseLine Global) SweepError) : Type 0 where
  pub lines : IfOk made (λ some. AreNumbered pages touches cases some.items)
  pub refusal : IfErr made (λ e. e ≡ Memory)
