-- A caller's buffers.
use Rattle.std.specs.Prelude.{List, ◌++◌, length, drop}

-- a buffer with these items over its front, and after them what was there
abbrev pub over : {X : Type 0} → List X → List X → List X
over items old = items ++ drop (length items) old
