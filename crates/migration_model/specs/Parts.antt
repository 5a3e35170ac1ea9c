-- Parts of a guest's memory at the destination, put together from frames in whatever order they come. This project's
-- own.
use Rattle.std.specs.Prelude.{◌≡◌, ℕ, ◌^◌, ◌≤◌, nat_lt, if◌then◌else◌, List, [], ◌∷◌, length, replicate, slice_index_or}
use Rattle.std.specs.Prelude.{slice_set, Option, Some, None, IfSome}
use Rattle.std.specs.List.{Contains, fold}
use Rattle.migration_model.specs.Trace.{GuestTrace}
use Rattle.migration_model.specs.Versions.{page_at}
use Rattle.migration_model.specs.Frames.{GuestShape, IsGuestShape, PageFrame, content_of}

-- what is kept of a page: its bytes at the version that the stamp names
pub record PageCopy : Type 0 where
  pub stamp : ℕ
  pub content : List ℕ

-- A finite map from pages to copies, as a list with a slot for each page of the guest.
pub record GuestPart : Type 0 where
  pub shape : GuestShape
  pub copies : List (Option PageCopy)

abbrev pub part_with : GuestShape → List (Option PageCopy) → GuestPart
part_with shape copies = record { shape = shape; copies = copies }

-- what the part has of a page
abbrev pub copy_at : GuestPart → ℕ → Option PageCopy
copy_at part page = slice_index_or part.copies page None

-- a copy that a page of this guest may have
pub record IsCopy (shape : GuestShape) (copy : PageCopy) : Type 0 where
  pub stamp : copy.stamp ≤ shape.writes
  pub content : length copy.content ≡ 2 ^ shape.shift

pub record IsPart (part : GuestPart) : Type 0 where
  pub shape : IsGuestShape part.shape
  pub places : length part.copies ≡ part.shape.pages
  pub copies : (page : ℕ) → IfSome (copy_at part page) (IsCopy part.shape)

-- a part that has no page
abbrev pub empty_part : GuestShape → GuestPart
empty_part shape = part_with shape (replicate shape.pages None)

-- of two copies of a page, the one with the greater stamp, and the first if the stamps are equal
abbrev pub later : Option PageCopy → Option PageCopy → Option PageCopy
later None second = second
later (Some first) None = Some first
later (Some first) (Some second) = if nat_lt first.stamp second.stamp then Some second else Some first

-- the later copy of each page, from two lists of copies
abbrev pub later_each : List (Option PageCopy) → List (Option PageCopy) → List (Option PageCopy)
later_each [] seconds = seconds
later_each (first ∷ firsts) [] = first ∷ firsts
later_each (first ∷ firsts) (second ∷ seconds) = later first second ∷ later_each firsts seconds

-- the join of two parts of one guest: the later copy of each page
abbrev pub join : GuestPart → GuestPart → GuestPart
join first second = part_with first.shape (later_each first.copies second.copies)

-- the join of all parts of a list, in order
abbrev pub join_all : GuestShape → List GuestPart → GuestPart
join_all shape parts = fold join (empty_part shape) parts

-- the copy that a frame brings
abbrev pub copy_in : GuestShape → PageFrame → PageCopy
copy_in shape frame = record { stamp = frame.stamp; content = content_of shape frame }

-- the part that has this frame's page and no other
abbrev pub part_of : GuestShape → PageFrame → GuestPart
part_of shape frame = part_with shape (slice_set (replicate shape.pages None) frame.page (Some (copy_in shape frame)))

-- a part after one more frame: the later copy of its page, and all other pages as before
abbrev pub with_frame : GuestPart → PageFrame → GuestPart
with_frame part frame = part_with part.shape
    (slice_set part.copies frame.page (later (copy_at part frame.page) (Some (copy_in part.shape frame))))

-- a part after these frames, in order
abbrev pub with_frames : GuestPart → List PageFrame → GuestPart
with_frames part frames = fold with_frame part frames

-- parts of one guest that have equal copies wherever their stamps of a page are equal
pub record Agree (a b : GuestPart) : Type 0 where
  pub shape : a.shape ≡ b.shape
  pub copies : (page : ℕ) (c d : PageCopy) → copy_at a page ≡ Some c → copy_at b page ≡ Some d
      → c.stamp ≡ d.stamp → c ≡ d

-- frames that have equal bytes wherever their pages and stamps are equal
abbrev pub FramesAgree : GuestShape → List PageFrame → Type 0
FramesAgree shape frames =
    (f g : PageFrame) → Contains frames f → Contains frames g
    → f.page ≡ g.page → f.stamp ≡ g.stamp → content_of shape f ≡ content_of shape g

-- each copy is the page at the version that its stamp names
abbrev pub IsHonest : GuestTrace → GuestPart → Type 0
IsHonest trace part = (page : ℕ) (copy : PageCopy) → copy_at part page ≡ Some copy
    → copy.content ≡ page_at trace page copy.stamp
