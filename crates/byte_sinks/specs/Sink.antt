-- What is known of a sink of bytes: the bytes that it holds, if they are known, whether a write or a flush failed, and
-- whether all was flushed.
use Rattle.std.specs.Prelude.{◌<◌, ◌≤◌, ℕ, Bool, List, length, take, Option, Some, None}
use Rattle.std.specs.Io.KnownBytes.{Keeps, Appends}

pub record SinkState : Type 0 where
  pub contents : Option (List ℕ)
  pub has_failed : Bool
  pub is_flushed : Bool

abbrev pub sink_state : Option (List ℕ) → Bool → Bool → SinkState
sink_state contents has_failed is_flushed =
    record { contents = contents; has_failed = has_failed; is_flushed = is_flushed }

-- A write that took n bytes added those, and at least one if it was given any. One that failed added none.
abbrev pub WritesTo : Option (List ℕ) → Option (List ℕ) → Option ℕ → List ℕ → Type 0
WritesTo old new None bytes = Keeps old new
WritesTo old new (Some n) bytes = (n ≤ length bytes) × (0 < length bytes → 0 < n) × Appends old new (take n bytes)

-- the first of the bytes were added, maybe not all
abbrev pub AppendsPart : Option (List ℕ) → Option (List ℕ) → List ℕ → Type 0
AppendsPart old new bytes = (n : ℕ) × Appends old new (take n bytes)
