-- What a job writes, and why it does not.
use Rattle.std.specs.Prelude.{◌≡◌, ℕ, List, Option, IfSome, ⊤}
use Rattle.migration_model.specs.Trace.{GuestTrace, IsTrace, Spells}
use Rattle.migration_model.specs.Memory.{image_before, image_of}
use Rattle.migration_model.specs.Rates.{MigrationSettings}
use Rattle.migration_model.specs.Rounds.{IsPlan, MigrationPlan}
use Rattle.migration_model.specs.Touches.{touches_of}
use Rattle.sweep_report.specs.Reports.{IsReport, IsSweep}
use Rattle.trace_codec.specs.Source.{IsOutside, SourceRefuses, SourceSpells}
use Rattle.job_kinds.specs.declared.job.Job.{Job}
use Rattle.job_kinds.specs.declared.job.Job.TheVariants as jobs
use Rattle.job_kinds.specs.declared.job.Show.{Show}
use Rattle.job_kinds.specs.declared.job.Show.TheVariants as shows
use Rattle.migration_jobs.specs.declared.error.RunError.{RunError}
use Rattle.migration_jobs.specs.declared.error.RunError.TheVariants as errors

-- the memory when the plan with these settings stops the guest
pub record IsStopMemory (trace : GuestTrace) (settings : MigrationSettings) (bytes : List ℕ) : Type 0 where
  pub plan : MigrationPlan
  pub is_plan : IsPlan trace.pages (touches_of trace) settings plan
  pub bytes_are : bytes ≡ (image_before trace plan.stop).bytes

-- the memory that is written of a live run
abbrev pub IsShown : Show → GuestTrace → MigrationSettings → List ℕ → Type 0
IsShown shows.Stop trace settings bytes = IsStopMemory trace settings bytes
IsShown shows.End trace settings bytes = bytes ≡ (image_of trace).bytes

-- these bytes are the memory after all writes of the trace that a source holds
abbrev pub IsImageOf : Option (List ℕ) → List ℕ → Type 0
IsImageOf known bytes = (trace : GuestTrace) × IsTrace trace × SourceSpells known trace
    × (bytes ≡ (image_of trace).bytes)

-- the whole output of a job over a trace
abbrev pub IsOutputOf : Job → GuestTrace → List ℕ → Type 0
IsOutputOf jobs.Image trace output = output ≡ (image_of trace).bytes
IsOutputOf (jobs.Report settings) trace output = IsReport trace settings output
IsOutputOf (jobs.Live settings show) trace output = IsShown show trace settings output
IsOutputOf (jobs.Sweep cases workers) trace output = IsSweep trace cases.items output

-- The output of a job for what a source held: bytes that encode a trace, and all of its bytes, if they are known.
pub record IsOutput (known : Option (List ℕ)) (job : Job) (output : List ℕ) : Type 0 where
  pub bytes : List ℕ
  pub trace : GuestTrace
  pub all : IfSome known (λ held. held ≡ bytes)
  pub spells : Spells bytes trace
  pub is_output : IsOutputOf job trace output

-- A trace is refused only for a cause in what the source held or outside of it.
abbrev pub RefusesRun : Option (List ℕ) → RunError → Type 0
RefusesRun known (errors.Trace e) = SourceRefuses known e
RefusesRun known errors.Memory = ⊤
RefusesRun known errors.Thread = ⊤
RefusesRun known (errors.Live e) = ⊤
RefusesRun known errors.Write = ⊤

-- memory ran out, a thread could not be started, or a read or a write failed
abbrev pub IsOutsideRun : RunError → Type 0
IsOutsideRun (errors.Trace e) = IsOutside e
IsOutsideRun errors.Memory = ⊤
IsOutsideRun errors.Thread = ⊤
IsOutsideRun (errors.Live e) = ⊤
IsOutsideRun errors.Write = ⊤

-- a job that performs a migration
abbrev pub IsLiveJob : Job → Type 0
IsLiveJob (jobs.Live settings show) = ⊤
IsLiveJob jobs.Image = ⊥
IsLiveJob (jobs.Report settings) = ⊥
IsLiveJob (jobs.Sweep cases workers) = ⊥

-- A job's errors: only a live run has those of live runs. No job is refused because a thread of its own did not start.
abbrev pub IsRefusalOf : Job → RunError → Type 0
IsRefusalOf job (errors.Trace e) = ⊤
IsRefusalOf job errors.Memory = ⊤
IsRefusalOf job errors.Write = ⊤
IsRefusalOf job (errors.Live e) = IsLiveJob job
IsRefusalOf job errors.Thread = ⊥

-- a job that performs none
abbrev pub IsOtherJob : Job → Type 0
IsOtherJob (jobs.Live settings show) = ⊥
IsOtherJob jobs.Image = ⊤
IsOtherJob (jobs.Report settings) = ⊤
IsOtherJob (jobs.Sweep cases workers) = ⊤

-- A job's errors before anything is written: no write has failed, and what a live run wants is told by its own error,
-- which no other job has.
abbrev pub RefusesOutput : Job → RunError → Type 0
RefusesOutput job (errors.Trace e) = ⊤
RefusesOutput job errors.Memory = IsOtherJob job
RefusesOutput job errors.Write = ⊥
RefusesOutput job (errors.Live e) = IsLiveJob job
RefusesOutput job errors.Thread = ⊥
