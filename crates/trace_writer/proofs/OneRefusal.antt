-- What a writer answers is one value alone.
use Rattle.std.proofs.Common.{◌≡◌, ℕ, ◌≤◌, List, length, take, refl, sym, ap, ◌∙◌, arith}
use Rattle.migration_model.specs.Trace.{GuestTrace, IsTrace, trace_text}
use Rattle.migration_model.proofs.Traces.{one_trace_lem}
use Rattle.trace_codec.proofs.Made.{never_refuses}
use Rattle.trace_codec.proofs.OneRecord.{one_cause_of}
use Rattle.trace_writer.specs.Recordings.{Records, RefusesRecording}
use Rattle.trace_writer.specs.declared.error.RecordingError.{RecordingError}
use Rattle.trace_writer.specs.declared.error.RecordingError.TheVariants as errors
use Rattle.trace_writer.specs.declared.recording.Recording.{Recording}

pub same_recording : (bytes other : List ℕ) (r s : Recording) (t : GuestTrace) → Records bytes r t
    → Records other s t → r ≡ s
same_recording bytes other r s t one two = λ i. record {
  length = (one.tells.size_is ∙ sym two.tells.size_is) i;
  last_tick = (one.tells.tick_is ∙ sym two.tells.tick_is) i;
  writes = (one.tells.writes_are ∙ sym two.tells.writes_are) i;
  pages = (one.tells.pages_are ∙ sym two.tells.pages_are) i;
  shift = (one.tells.shift_is ∙ sym two.tells.shift_is) i;
}

pub same_bytes : (bytes other : List ℕ) (r s : Recording) (t : GuestTrace) → Records bytes r t → Records other s t
    → take r.length bytes ≡ take s.length other
same_bytes bytes other r s t one two = one.spells.text ∙ sym two.spells.text

pub same_trace_of : (bytes : List ℕ) (r : Recording) (t u : GuestTrace) → Records bytes r t → Records bytes r u → t ≡ u
same_trace_of bytes r t u one two = one_trace_lem (take r.length bytes) t u one.spells two.spells

pub same_refusal : (t : GuestTrace) (room : ℕ) (e f : RecordingError) → RefusesRecording t room e
    → RefusesRecording t room f → e ≡ f
same_refusal t room (errors.Trace e) (errors.Trace f) one two = ap errors.Trace (one_cause_of t e f one two)
same_refusal t room (errors.Trace e) errors.ShortBuffer one two = absurd (never_refuses t e two.0 one)
same_refusal t room errors.ShortBuffer (errors.Trace f) one two = absurd (never_refuses t f one.0 two)
same_refusal t room errors.ShortBuffer errors.ShortBuffer one two = refl

pub not_refused : (t : GuestTrace) (room : ℕ) (e : RecordingError) → IsTrace t → length (trace_text t) ≤ room
    → RefusesRecording t room e → ⊥
not_refused t room (errors.Trace e) is fits refused = never_refuses t e is refused
not_refused t room errors.ShortBuffer is fits refused = absurd (omega (arith, fits, refused.1))
