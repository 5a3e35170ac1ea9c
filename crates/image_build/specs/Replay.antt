-- Why memory could not be made from some bytes.
use Rattle.std.specs.Prelude.{ℕ, List, ⊤}
use Rattle.trace_codec.specs.Refusals.{Refuses}
use Rattle.image_build.specs.declared.error.ReplayError.{ReplayError}
use Rattle.image_build.specs.declared.error.ReplayError.TheVariants as errors

-- the bytes are refused as a trace for this reason, or memory ran out
abbrev pub RefusesReplay : List ℕ → ReplayError → Type 0
RefusesReplay bytes (errors.Trace e) = Refuses bytes e
RefusesReplay bytes errors.Memory = ⊤
