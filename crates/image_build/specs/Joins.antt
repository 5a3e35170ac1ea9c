-- Memory that is left in parts.
use Rattle.std.specs.Prelude.{◌≡◌, ℕ, ◌<◌, ◌^◌, List, length, ⊤, Some}
use Rattle.std.specs.List.{All}
use Rattle.migration_model.specs.Frames.{GuestShape}
use Rattle.migration_model.specs.Images.{LacksFirst, memory_in}
use Rattle.migration_model.specs.Memory.{GuestMemory}
use Rattle.migration_model.specs.Parts.{PageCopy, GuestPart, copy_at, join_all}
use Rattle.image_build.specs.declared.error.ImageError.{ImageError}
use Rattle.image_build.specs.declared.error.ImageError.TheVariants as errors

-- parts of a guest of this shape
pub record WholeParts : Type 0 where
  pub shape : GuestShape
  pub parts : List GuestPart

abbrev pub whole_with : GuestShape → List GuestPart → WholeParts
whole_with shape parts = record { shape = shape; parts = parts }

-- the memory that the parts make together
abbrev pub memory_by : WholeParts → GuestMemory
memory_by whole = memory_in (join_all whole.shape whole.parts)

-- the parts have all pages of the guest
pub record IsWhole (whole : WholeParts) : Type 0 where
  pub shapes : All (λ part. part.shape ≡ whole.shape) whole.parts
  pub each : (page : ℕ) → page < whole.shape.pages
      → (copy : PageCopy) × (copy_at (join_all whole.shape whole.parts) page ≡ Some copy)
      × (length copy.content ≡ 2 ^ whole.shape.shift)

-- the refusal names the first page that is in no part
pub record IsMissing (shape : GuestShape) (parts : List GuestPart) (error : ImageError) : Type 0 where
  pub page : ℕ
  pub names : error ≡ errors.Missing page
  pub lacks : LacksFirst shape parts page

-- this is the first page that is in no part, or memory ran out
abbrev pub RefusesParts : GuestShape → List GuestPart → ImageError → Type 0
RefusesParts shape parts (errors.Missing page) = LacksFirst shape parts page
RefusesParts shape parts errors.Memory = ⊤
