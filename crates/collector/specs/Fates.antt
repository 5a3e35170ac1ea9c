-- What becomes of a frame that comes to a part. This project's own.
use Rattle.std.specs.Prelude.{◌≡◌, ℕ, ◌<◌, ◌≤◌, nat_lt, if◌then◌else◌, Option, Some, None, IsSomeAnd, option_map}
use Rattle.migration_model.specs.Parts.{PageCopy, GuestPart, copy_at}
use Rattle.collector.specs.declared.fate.Fate.{Fate}
use Rattle.collector.specs.declared.fate.Fate.TheVariants.{New, Newer, Old}

-- the stamp that a part has for a page
abbrev pub stamp_at : GuestPart → ℕ → Option ℕ
stamp_at part page = option_map (λ copy. copy.stamp) (copy_at part page)

-- the fate of a frame with this stamp, given the kept stamp of its page, if any
abbrev pub IsFate : Option ℕ → ℕ → Fate → Type 0
IsFate kept stamp New = kept ≡ None
IsFate kept stamp Newer = IsSomeAnd kept (λ s. s < stamp)
IsFate kept stamp Old = IsSomeAnd kept (λ s. stamp ≤ s)

-- of the kept copy of a page and one that comes, the one that goes: the kept copy if the other is newer, and otherwise
-- the one that comes; none if none was kept
abbrev pub goes : Option PageCopy → PageCopy → Option PageCopy
goes None new = None
goes (Some kept) new = if nat_lt kept.stamp new.stamp then Some kept else Some new
