use Rattle.std.proofs.Common.{◌≡◌, ℕ, ◌&&◌, nat_lt, length, slice_index}
use Rattle.migration_model.specs.Versions.{version_before}
use Rattle.page_bitmap.specs.Listing.{word_count}
use Rattle.page_bitmap.specs.Pages.{in_words}
use Rattle.live_engine.proofs.warm.pages_since.Given as goal

abbrev pub invariant-loop-page : goal.invariant-loop-page
invariant-loop-page g l = record {
  words : length l.marks.items ≡ word_count l.pages;
  pages : (page : ℕ) → in_words l.marks.items page
      ≡ (nat_lt page l.page && nat_lt (version_before (g.W.WriteLog.trace l.trace) page l.base)
      (slice_index l.versions page));
}
