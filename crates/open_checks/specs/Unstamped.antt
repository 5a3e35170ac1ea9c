-- Pages that come without a stamp, as from an engine that knows no versions. This project's own.
use Rattle.std.specs.Prelude.{◌≡◌, ◌≤◌, ◌+◌, ℕ, List, [], ◌∷◌, slice_set}
use Rattle.migration_model.specs.Final.{shape_of_trace}
use Rattle.migration_model.specs.Frames.{PageFrame, content_of}
use Rattle.migration_model.specs.Trace.{GuestTrace}
use Rattle.migration_model.specs.Versions.{page_at}
use Rattle.page_versions.specs.Index.{version_after}
use Rattle.open_checks.specs.Kept.{kept_version}

-- a version of the page with these bytes, from one on, and not behind the first `stop` writes
pub record IsFittingVersion (trace : GuestTrace) (stop page from : ℕ) (content : List ℕ) (version : ℕ) : Type 0 where
  pub is_version : version ≡ version_after trace page version
  pub late : from ≤ version
  pub in_time : version ≤ stop
  pub bytes : page_at trace page version ≡ content

-- the least of these
pub record IsFirstFitting (trace : GuestTrace) (stop page from : ℕ) (content : List ℕ) (version : ℕ) : Type 0 where
  pub fits : IsFittingVersion trace stop page from content version
  pub least : (other : ℕ) → IsFittingVersion trace stop page from content other → version ≤ other

-- pages that come one after another, each of which has its stamp as the first version that fits
abbrev pub AreFirstFitting : GuestTrace → ℕ → List ℕ → List PageFrame → Type 0
AreFirstFitting trace stop greatest [] = Unit {0}
AreFirstFitting trace stop greatest (frame ∷ frames) = IsFirstFitting trace stop frame.page
    (kept_version greatest frame.page) (content_of (shape_of_trace trace) frame) frame.stamp
    × AreFirstFitting trace stop (slice_set greatest frame.page (frame.stamp + 1)) frames
