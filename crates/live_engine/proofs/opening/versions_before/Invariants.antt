use Rattle.std.proofs.Common.{◌≡◌, ℕ, ◌<◌, length, slice_index}
use Rattle.migration_model.specs.Versions.{version_before}
use Rattle.live_engine.proofs.opening.versions_before.Given as goal

abbrev pub invariant-loop-page : goal.invariant-loop-page
invariant-loop-page g l = record {
  count : length l.versions.items ≡ l.page;
  each : (page : ℕ) → page < l.page → slice_index l.versions.items page
      ≡ version_before (g.W.WriteLog.trace l.trace) page l.tick;
}
