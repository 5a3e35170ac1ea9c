-- The memory that parts make together. This project's own.
use Rattle.std.specs.Prelude.{◌≡◌, ℕ, ◌<◌, ◌≤◌, List, [], slice_index_or, Option, Some, None, IfSome, IsSomeAnd}
use Rattle.std.specs.List.{All, Any, flat_map, range_with_len}
use Rattle.migration_model.specs.Memory.{GuestMemory, memory_with}
use Rattle.migration_model.specs.Frames.{GuestShape}
use Rattle.migration_model.specs.Parts.{PageCopy, GuestPart, IsPart, IsHonest, copy_at, join_all}
use Rattle.migration_model.specs.Trace.{GuestTrace}

-- the bytes of a page, if there are any
abbrev pub bytes_of : Option PageCopy → List ℕ
bytes_of None = []
bytes_of (Some copy) = copy.content

-- what a part has of its first `count` pages, one page after the other
abbrev pub bytes_of_first : GuestPart → ℕ → List ℕ
bytes_of_first part count = flat_map (λ page. bytes_of (copy_at part page)) (range_with_len 0 count)

-- the memory that a part makes: what it has of each page, one after the other
abbrev pub memory_in : GuestPart → GuestMemory
memory_in part = memory_with part.shape.shift part.shape.pages (bytes_of_first part part.shape.pages)

-- no part has this page
abbrev pub InNoPart : List GuestPart → ℕ → Type 0
InNoPart parts page = All (λ part. copy_at part page ≡ None) parts

-- each of the first `count` pages is in some part
abbrev pub HaveFirst : List GuestPart → ℕ → Type 0
HaveFirst parts count = (page : ℕ) → page < count → ¬ InNoPart parts page

-- this is the memory that the join of these parts makes, in which every page of the guest is
pub record IsJoined (shape : GuestShape) (parts : List GuestPart) (memory : GuestMemory) : Type 0 where
  pub whole : HaveFirst parts shape.pages
  pub is : memory ≡ memory_in (join_all shape parts)

-- this is the least page of the guest that is in no part
pub record LacksFirst (shape : GuestShape) (parts : List GuestPart) (page : ℕ) : Type 0 where
  pub low : page < shape.pages
  pub lacks : InNoPart parts page
  pub first : HaveFirst parts page

-- honest parts of one guest, in which no stamp of a page is greater than its version
pub record AreNotBeyond (trace : GuestTrace) (shape : GuestShape) (versions : List ℕ)
    (parts : List GuestPart) : Type 0 where
  pub are_parts : All IsPart parts
  pub shapes : All (λ part. part.shape ≡ shape) parts
  pub honest : All (IsHonest trace) parts
  pub bound : (page : ℕ) → All (λ part. IfSome (copy_at part page)
      (λ copy. copy.stamp ≤ slice_index_or versions page 0)) parts

-- some part has the page at its version
abbrev pub HaveCurrent : List ℕ → List GuestPart → ℕ → Type 0
HaveCurrent versions parts page = Any (λ part. IsSomeAnd (copy_at part page)
    (λ copy. copy.stamp ≡ slice_index_or versions page 0)) parts

-- parts that are not beyond, of which some part has each page at its version
pub record AreCurrent (trace : GuestTrace) (shape : GuestShape) (versions : List ℕ)
    (parts : List GuestPart) : Type 0 where
  pub not_beyond : AreNotBeyond trace shape versions parts
  pub current : (page : ℕ) → page < shape.pages → HaveCurrent versions parts page
