use Rattle.std.proofs.Common.{◌≡◌, ◌*◌, ◌^◌, fold, length, take}
use Rattle.migration_model.specs.Memory.{apply, memory_with}
use Rattle.page_versions.specs.Pages.{write_at}
use Rattle.image_build.proofs.resuming.write_all.Given as goal

abbrev pub invariant-loop-place : goal.invariant-loop-place
invariant-loop-place g l = record {
  len : length l.memory.items ≡ (g.W.WriteLog.trace l.trace).pages * 2 ^ (g.W.WriteLog.trace l.trace).shift;
  made : memory_with (g.W.WriteLog.trace l.trace).shift (g.W.WriteLog.trace l.trace).pages l.memory.items
      ≡ fold (λ m place. apply m (write_at (g.W.WriteLog.trace l.trace).writes place))
      (memory_with (g.W.WriteLog.trace l.trace).shift (g.W.WriteLog.trace l.trace).pages l.fn.memory.items)
      (take l.place-index l.places);
}
