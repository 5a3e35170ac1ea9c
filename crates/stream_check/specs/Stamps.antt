-- The stamps of the frames that came, by page: a list with a slot for each page of the guest. This project's own.
use Rattle.std.specs.Prelude.{ℕ, List, max, replicate, slice_index_or, slice_set, Option, Some, None}
use Rattle.std.specs.List.{fold}
use Rattle.migration_model.specs.Frames.{PageFrame}

-- no page came
abbrev pub no_stamps : ℕ → List (Option ℕ)
no_stamps pages = replicate pages None

-- the stamp of a page, if it came
abbrev pub stamp_of : List (Option ℕ) → ℕ → Option ℕ
stamp_of stamps page = slice_index_or stamps page None

-- the last stamps after one more frame: its own for its page
abbrev pub keep_last : List (Option ℕ) → PageFrame → List (Option ℕ)
keep_last stamps frame = slice_set stamps frame.page (Some frame.stamp)

-- the greater of the stamp that came, if any, and another
abbrev pub greater : Option ℕ → ℕ → ℕ
greater None stamp = stamp
greater (Some came) stamp = max came stamp

-- the greatest stamps after one more frame
abbrev pub keep_greatest : List (Option ℕ) → PageFrame → List (Option ℕ)
keep_greatest stamps frame =
    slice_set stamps frame.page (Some (greater (stamp_of stamps frame.page) frame.stamp))

-- the stamp of the last of these frames for each page, and the greatest
abbrev pub last_stamps : List (Option ℕ) → List PageFrame → List (Option ℕ)
last_stamps stamps frames = fold keep_last stamps frames

abbrev pub greatest_stamps : List (Option ℕ) → List PageFrame → List (Option ℕ)
greatest_stamps stamps frames = fold keep_greatest stamps frames
