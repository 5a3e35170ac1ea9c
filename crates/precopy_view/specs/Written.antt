-- What the program writes, and why it does not.
use Rattle.std.specs.Prelude.{◌≡◌, ◌≢◌, ◌↔◌, ℕ, Bool, List, Option, ⊤, true}
use Rattle.std.specs.Io.KnownBytes.{Appends}
use Rattle.byte_sinks.specs.Sink.{AppendsPart}
use Rattle.migration_model.specs.Touches.{GuestTouches}
use Rattle.predictions.specs.declared.verdict.Verdict.{Verdict}
use Rattle.precopy_view.specs.Fitting.{FitsScale, IsMisfit}
use Rattle.precopy_view.specs.declared.faults.ShowError.{ShowError}
use Rattle.precopy_view.specs.declared.faults.ShowError.TheVariants as errors
use Rattle.trace_codec.specs.Source.{SourceRefuses}
use Rattle.trace_codec.specs.declared.error.TraceError.TheVariants.{ReadFault}
use Rattle.trace_readers.specs.Pieces.{IsLogOf}
use Rattle.trace_views.specs.Views.{IsView, RefusesView}
use Rattle.trace_views.specs.declared.error.ViewError.{ViewError}
use Rattle.view_commands.specs.declared.command.AskedView.{AskedView}

-- a view of the trace that a source held, and whether its limit is kept
pub record MakesView (known : Option (List ℕ)) (asked : AskedView) (output : List ℕ) (kept : Verdict) : Type 0 where
  pub log : GuestTouches
  pub is_log : IsLogOf known log
  pub fits : FitsScale asked.scale log.shift log.pages
  pub is_view : IsView log asked.view output kept

-- the view, or a prefix of it, was added to what a sink held
pub record WritesView (known : Option (List ℕ)) (asked : AskedView) (kept : Verdict)
    (old new : Option (List ℕ)) : Type 0 where
  pub output : List ℕ
  pub is_shown : MakesView known asked output kept
  pub added : Appends old new output

pub record WritesViewPart (known : Option (List ℕ)) (asked : AskedView) (old new : Option (List ℕ)) : Type 0 where
  pub output : List ℕ
  pub kept : Verdict
  pub is_shown : MakesView known asked output kept
  pub added : AppendsPart old new output

-- the trace does not have the requested scale
pub record RefusesScale (known : Option (List ℕ)) (asked : AskedView) (e : ShowError) : Type 0 where
  pub log : GuestTouches
  pub is_log : IsLogOf known log
  pub misfit : IsMisfit asked.scale log.shift log.pages e

-- the requested view cannot be made of the trace
pub record RefusesMaking (known : Option (List ℕ)) (asked : AskedView) (e : ViewError) : Type 0 where
  pub log : GuestTouches
  pub is_log : IsLogOf known log
  pub fits : FitsScale asked.scale log.shift log.pages
  pub refused : RefusesView log asked.view e

-- A trace is refused only for a cause in what the source held or outside of it, for its scale, or for what the view
-- asks of it.
abbrev pub RefusesAskedView : Option (List ℕ) → AskedView → ShowError → Type 0
RefusesAskedView known asked (errors.Trace e) = SourceRefuses known e
RefusesAskedView known asked errors.Memory = ⊤
RefusesAskedView known asked errors.Write = ⊤
RefusesAskedView known asked (errors.PageSize size) = RefusesScale known asked (errors.PageSize size)
RefusesAskedView known asked (errors.TooManyPages pages) = RefusesScale known asked (errors.TooManyPages pages)
RefusesAskedView known asked (errors.View e) = RefusesMaking known asked e

-- A view of what a source held failed for a cause, which was told. `unread` and `unwritten` say whether the source and
-- the sink failed. The sink holds a prefix of the view if a write failed, and is otherwise as it was: `is_kept`.
pub record HasFailed (known : Option (List ℕ)) (asked : AskedView) (unread unwritten : Bool)
    (old new : Option (List ℕ)) (is_kept : Type 0) (tells : ShowError → Type 0) : Type 0 where
  pub error : ShowError
  pub cause : RefusesAskedView known asked error
  pub read_failed : (error ≡ errors.Trace ReadFault) ↔ (unread ≡ true)
  pub write_failed : (error ≡ errors.Write) ↔ (unwritten ≡ true)
  pub part : error ≡ errors.Write → WritesViewPart known asked old new
  pub kept : error ≢ errors.Write → is_kept
  pub told : tells error
