-- What is known of a source of bytes: the bytes that reads will give from here on, if they are known, and whether a
-- read failed.
use Rattle.std.specs.Prelude.{◌≡◌, ◌<◌, ◌≤◌, ◌^◌, ℕ, Bool, List, length, take, Option, Some, None, IfSome, ◌⊎◌}
use Rattle.std.specs.Io.KnownBytes.{Keeps, Consumes, IsAtEnd}
use Rattle.migration_model.specs.Trace.{GuestTrace, Spells}
use Rattle.trace_codec.specs.Refusals.{Refuses}
use Rattle.trace_codec.specs.declared.error.TraceError.{TraceError}
use Rattle.trace_codec.specs.declared.error.TraceError.TheVariants.{Memory, ReadFault}

pub record SourceState : Type 0 where
  pub remaining : Option (List ℕ)
  pub has_failed : Bool

abbrev pub source_state : Option (List ℕ) → Bool → SourceState
source_state remaining has_failed = record { remaining = remaining; has_failed = has_failed }

-- A read that gave n bytes took them from the front, and 0 into a buffer that is not empty is the end. One that failed
-- took none.
abbrev pub ReadsFrom : Option (List ℕ) → Option (List ℕ) → Option ℕ → List ℕ → Type 0
ReadsFrom old new None buffer = Keeps old new
ReadsFrom old new (Some n) buffer = (n ≤ length buffer) × Consumes old new (take n buffer)
    × (n ≡ 0 → 0 < length buffer → IsAtEnd new)

-- All bytes were read, or more of them than a trace may have.
abbrev pub ReadsWhole : Option (List ℕ) → Option (List ℕ) → List ℕ → Type 0
ReadsWhole old new bytes = Consumes old new bytes × (length bytes ≤ 2 ^ 28 → IsAtEnd new)

-- memory ran out, or a read failed
abbrev pub IsOutside : TraceError → Type 0
IsOutside e = (e ≡ Memory) ⊎ (e ≡ ReadFault)

-- what the source holds encodes this trace
abbrev pub SourceSpells : Option (List ℕ) → GuestTrace → Type 0
SourceSpells known trace = IfSome known (λ bytes. Spells bytes trace)

-- what the source holds is refused for this
abbrev pub SourceRefuses : Option (List ℕ) → TraceError → Type 0
SourceRefuses known e = IsOutside e ⊎ IfSome known (λ bytes. Refuses bytes e)
