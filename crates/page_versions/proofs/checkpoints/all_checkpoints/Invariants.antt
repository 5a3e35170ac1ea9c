use Rattle.std.proofs.Common.{◌≡◌, ℕ, ◌<◌, [], length, map, slice_index_or}
use Rattle.std.specs.List.{All}
use Rattle.page_versions.specs.Copies.{IsCheckpoint}
use Rattle.page_versions.proofs.checkpoints.all_checkpoints.Given as goal

abbrev pub invariant-loop-page : goal.invariant-loop-page
invariant-loop-page g l = record {
  len : length l.made.items ≡ l.page;
  each : (page : ℕ) → page < l.page → All (IsCheckpoint l.source page)
      (slice_index_or (map (λ m. m.items) l.made.items) page []);
}
