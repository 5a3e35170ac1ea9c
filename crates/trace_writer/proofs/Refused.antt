-- What calls are refused for, in the form in which their contracts say it.
use Rattle.std.proofs.Common.{◌≡◌, ℕ, ◌+◌, ◌-◌, ◌^◌, ◌<◌, ◌≤◌, min, Bool, nat_le, Some, None, Option, sym, ap, ◌∙◌, inl, inr, arith}
use Rattle.std.specs.Prelude.{if◌then◌else◌}
use Rattle.std.proofs.lemmas.Bool.{cases_lt, le-leb, lt-leb, le-ltb, lt-ltb}
use Rattle.migration_model.specs.Trace.{GuestWrite}
use Rattle.trace_codec.specs.Refusals.{record_refusal, sizes_refusal}
use Rattle.trace_codec.specs.declared.error.TraceError.{TraceError}
use Rattle.trace_writer.specs.Recordings.{end_after, first_of, refusal_in, refusal_of_any, refusal_of_trace}
use Rattle.trace_writer.specs.declared.error.RecordingError.{RecordingError}
use Rattle.trace_writer.specs.declared.error.RecordingError.TheVariants as errors
use Rattle.trace_writer.specs.declared.recording.Recording.{Recording}

pub in_some : (o : Option TraceError) (e : TraceError) (room end : ℕ) → o ≡ Some e
    → refusal_in o room end ≡ Some (errors.Trace e)
in_some o e room end is = ap (λ (x : Option TraceError). refusal_in x room end) is

room_left : Bool → Option RecordingError
room_left short = if short then Some errors.ShortBuffer else None

pub in_short : (o : Option TraceError) (room end : ℕ) → o ≡ None → room < end
    → refusal_in o room end ≡ Some errors.ShortBuffer
unfolding room_left
in_short o room end is low = ap (λ (x : Option TraceError). refusal_in x room end) is
    ∙ ap room_left (lt-ltb room end low)

pub in_none : (o : Option TraceError) (room end : ℕ) → o ≡ None → end ≤ room → refusal_in o room end ≡ None
unfolding room_left
in_none o room end is low = ap (λ (x : Option TraceError). refusal_in x room end) is
    ∙ ap room_left (le-ltb room end low)

-- a sum that is cut at the greatest number is as long as the sum
short_same : (n : ℕ) → nat_le (min n (2 ^ 64 - 1)) (2 ^ 28) ≡ nat_le n (2 ^ 28)
short_same n = elim (cases_lt (2 ^ 28) n) [
  | inl long ↦ lt-leb (min n (2 ^ 64 - 1)) (2 ^ 28) (omega (arith, long)) ∙ sym (lt-leb n (2 ^ 28) long)
  | inr short ↦ le-leb (min n (2 ^ 64 - 1)) (2 ^ 28) (omega (arith, short)) ∙ sym (le-leb n (2 ^ 28) short)
]

trace_same : (r : Recording) (write : GuestWrite) (end : ℕ) → end ≡ min (end_after r write) (2 ^ 64 - 1)
    → refusal_of_trace r (end_after r write) write ≡ refusal_of_trace r end write
trace_same r write end is =
    (λ i. first_of (sizes_refusal (sym (short_same (end_after r write)) i) 2 r.shift r.pages (r.writes + 1))
    (record_refusal 2 r.shift r.pages r.last_tick r.writes write))
    ∙ ap (λ n. refusal_of_trace r n write) (sym is)

pub any_some : (r : Recording) (write : GuestWrite) (end room : ℕ) (e : TraceError)
    → end ≡ min (end_after r write) (2 ^ 64 - 1) → refusal_of_trace r end write ≡ Some e
    → refusal_of_any r room write ≡ Some (errors.Trace e)
any_some r write end room e is refused = in_some _ e room (end_after r write) (trace_same r write end is ∙ refused)

pub any_short : (r : Recording) (write : GuestWrite) (end room : ℕ) → end ≡ min (end_after r write) (2 ^ 64 - 1)
    → refusal_of_trace r end write ≡ None → room < end → refusal_of_any r room write ≡ Some errors.ShortBuffer
any_short r write end room is none low =
    in_short _ room (end_after r write) (trace_same r write end is ∙ none) (omega (arith, is, low))

pub any_none : (r : Recording) (write : GuestWrite) (end room : ℕ) → end ≡ end_after r write
    → end ≡ min (end_after r write) (2 ^ 64 - 1) → refusal_of_trace r end write ≡ None → end ≤ room
    → refusal_of_any r room write ≡ None
any_none r write end room exact is none low =
    in_none _ room (end_after r write) (trace_same r write end is ∙ none) (omega (arith, exact, low))

-- ---- of two, the first

pub first_some : (o other : Option TraceError) (e : TraceError) → o ≡ Some e → first_of o other ≡ Some e
first_some o other e is = ap (λ (x : Option TraceError). first_of x other) is

pub first_other : (o other found : Option TraceError) → o ≡ None → other ≡ found → first_of o other ≡ found
first_other o other found none is = (λ i. first_of (none i) (is i))
