-- What a destination had before any frame came.
use Rattle.std.specs.Prelude.{List, [], ◌∷◌, Option, None, Some}
use Rattle.migration_model.specs.Parts.{GuestPart, join}

-- the parts of the streams, the first joined to the part that the destination began with, if any
abbrev pub parts_with : Option GuestPart → List GuestPart → List GuestPart
parts_with None parts = parts
parts_with (Some first) [] = []
parts_with (Some first) (part ∷ rest) = join first part ∷ rest
