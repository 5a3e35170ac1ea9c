-- The bytes of an output.
use Rattle.std.specs.Prelude.{ℕ, List}
use Rattle.migration_jobs.specs.declared.output.Output.{Output}
use Rattle.migration_jobs.specs.declared.output.Output.TheVariants as outputs

-- the bytes of a text, or of memory
abbrev pub bytes_in : Output → List ℕ
bytes_in (outputs.Text text) = text.items
bytes_in (outputs.Memory memory) = memory.bytes
bytes_in (outputs.Dealt memory) = memory.bytes
