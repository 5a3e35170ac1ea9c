-- What was made from the bytes that were read, stated about what the source held.
use Rattle.std.proofs.Common.{◌≡◌, ℕ, List, Option, Some, None, refl, sym, ap, subst, ◌∙◌, inl, inr}
use Rattle.std.specs.List.{fold}
use Rattle.std.specs.Prelude.{◌≢◌, IfSome}
use Rattle.migration_model.specs.Trace.{GuestTrace, IsTrace, Spells, trace_text}
use Rattle.trace_codec.specs.Refusals.{Refuses}
use Rattle.trace_codec.specs.Source.{SourceSpells}
use Rattle.trace_codec.proofs.Never.{never_refused}
use Rattle.migration_jobs.specs.Output.{IsImageOf, IsOutputOf, IsOutput, IsOutsideRun, IsRefusalOf, RefusesOutput}
use Rattle.migration_jobs.specs.Output.{RefusesRun}
use Rattle.migration_model.specs.Memory.{GuestMemory, apply, zeros}
use Rattle.guest_log.specs.declared.shape.Header.{Header}
use Rattle.trace_readers.specs.Visits.{IsAllVisited}
use Rattle.job_kinds.specs.declared.job.Job.{Job}
use Rattle.migration_jobs.specs.declared.error.RunError.{RunError}
use Rattle.migration_jobs.specs.declared.error.RunError.TheVariants as errors

-- an error before anything is written is one of the job's errors, but not that of writing
pub own_run : (job : Job) (e : RunError) → RefusesOutput job e → IsRefusalOf job e
own_run job (errors.Trace e) own = tt
own_run job errors.Memory own = tt
own_run job errors.Write own = absurd own
own_run job (errors.Live e) own = own
own_run job errors.Thread own = absurd own

pub unwritten_run : (job : Job) (e : RunError) → RefusesOutput job e → e ≢ errors.Write
unwritten_run job e own is = subst (RefusesOutput job) is own

-- no cause in the trace refuses a source that holds one
pub only_run : (known : Option (List ℕ)) (bytes : List ℕ) (trace : GuestTrace) (e : RunError) → known ≡ Some bytes
    → Spells bytes trace → RefusesRun known e → IsOutsideRun e
only_run known bytes trace (errors.Trace e) is spells (inl outside) = outside
only_run known bytes trace (errors.Trace e) is spells (inr refused) =
    absurd (never_refused bytes trace e spells (subst (λ k. IfSome k (λ held. Refuses held e)) is refused))
only_run known bytes trace errors.Memory is spells refused = tt
only_run known bytes trace errors.Thread is spells refused = tt
only_run known bytes trace (errors.Live e) is spells refused = tt
only_run known bytes trace errors.Write is spells refused = tt

-- the bytes that a source held, if they encode a trace
held_text : (known : Option (List ℕ)) (trace : GuestTrace) → SourceSpells known trace
    → IfSome known (λ held. held ≡ trace_text trace)
held_text None trace spells = tt
held_text (Some held) trace spells = spells.text

-- what was made is the output for all that the source held
pub made_run : (job : Job) (output : List ℕ) (known : Option (List ℕ)) → (trace : GuestTrace) × IsTrace trace
    × SourceSpells known trace × IsOutputOf job trace output
    → IsOutput known job output
made_run job output known made =
    record {
      bytes = trace_text made.0;
      trace = made.0;
      all = held_text known made.0 made.2;
      spells = record { is_trace = made.1; text = refl };
      is_output = made.3;
    }

-- the memory that all writes of a trace made from zeros
pub image_made : (known : Option (List ℕ)) (header : Header) (start made : GuestMemory) (bytes : List ℕ) → start
    ≡ zeros header.shape.shift header.shape.pages → bytes ≡ made.bytes
    → IsAllVisited (λ writes. fold apply start writes ≡ made) known header → IsImageOf known bytes
image_made known header start made bytes blank is all =
    let same : start ≡ zeros all.trace.shift all.trace.pages = blank
    ∙ (λ i. zeros (sym all.shift i) (sym all.pages i)) in (
      all.trace,
      all.is_trace,
      all.held,
      is ∙ ap (λ (m : GuestMemory). m.bytes) (sym all.made)
          ∙ ap (λ (m : GuestMemory). (fold apply m all.trace.writes).bytes) same,
    )
