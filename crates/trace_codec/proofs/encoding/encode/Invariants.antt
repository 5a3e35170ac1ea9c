use Rattle.std.proofs.Common.{◌≡◌, ◌++◌, take, length}
use Rattle.std.specs.List.{flat_map}
use Rattle.migration_model.specs.Trace.{header_text, write_text}
use Rattle.trace_codec.proofs.encoding.encode.Given as goal

abbrev pub invariant-loop-write : goal.invariant-loop-write
invariant-loop-write l = l.text.items ≡ header_text l.trace.version l.trace.shift l.trace.pages (length l.trace.writes)
    ++ flat_map write_text (take l.write-index l.write-items)
