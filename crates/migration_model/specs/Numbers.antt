-- Unsigned numbers as bytes, the lowest byte first. Every format of the project writes its numbers this way.
use Rattle.std.specs.Prelude.{ℕ, ◌<◌, List, slice_index}
use Rattle.std.specs.Int.{Width, to_le_bytes, from_le_bytes}

-- the encoding of a number: as many bytes as the width has
unfoldable pub text_of : Width → ℕ → List ℕ
text_of w n = to_le_bytes w n

-- the number that the first bytes encode, as many as the width has
unfoldable pub number_in : Width → List ℕ → ℕ
number_in w bytes = from_le_bytes w bytes

-- each number of the list is a byte
abbrev pub IsBytes : List ℕ → Type 0
IsBytes bytes = (i : ℕ) → slice_index bytes i < 256
