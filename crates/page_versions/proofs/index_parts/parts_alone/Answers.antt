use Rattle.std.proofs.Common.{◌≡◌, List, length, ◌∙◌, arith}
use Rattle.std.specs.List.Sorted.{IsPermutation}
use Rattle.std.proofs.lemmas.List.{take_at}
use Rattle.std.proofs.lemmas.List.Sorted.{length_permutation}
use Rattle.page_versions.specs.declared.runs.Run.{Run}
use Rattle.page_versions.proofs.index_parts.parts_alone.Goals as goal

pub parts_from-requires-clause-sorted : goal.parts_from-requires-clause-sorted
parts_from-requires-clause-sorted g c =
    let made : List Run = c.in_ok-runs.runs.items in
    let sorted : List Run = c.sort_alone.new.runs in
    let same : IsPermutation made sorted = rw c.deref_mut.ensures.value at c.sort_alone.ensures.same in
    let len : length sorted ≡ c.in_ok-runs.runs.len =
    omega (arith, length_permutation made sorted same, c.in_ok-runs.runs.ok.0) in
    rw (c.deref.ensures.value ∙ take_at sorted _ c.in_ok-runs.runs.len len)
    record { before = made; are = c.in_ok-runs.ensures.runs; same = same; by_page = c.sort_alone.ensures.by_page }
