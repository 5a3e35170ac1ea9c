use Rattle.std.proofs.Common.{◌≡◌, ℕ, suc, ◌+◌, ◌-◌, ◌*◌, ◌^◌, ◌≤◌, List, ◌++◌, length, ap, ◌∙◌, arith}
use Rattle.std.specs.List.{between}
use Rattle.std.proofs.Math.Nat.{mul-le-mul_right}
use Rattle.byte_sinks.proofs.Memories.{length-page}
use Rattle.byte_sinks.proofs.Pieces.{between_more}
use Rattle.byte_sinks.proofs.paged_memory.fill_piece.Goals as goal

pub unreachable-requires : goal.unreachable-requires
unreachable-requires g c =
    let memory = g.M.PagedMemory.memory c.args.memory.now in
    let n = 2 ^ memory.shift in
    let page = c.loop-page.page in
    let inside : suc page * n ≤ c.args.end * n = mul-le-mul_right n c.loop-page-test.true in
    let back : c.args.end ≡ c.args.first + (c.args.end - c.args.first) = omega (arith, c.requires.order) in
    let parts : (c.args.first + (c.args.end - c.args.first)) * n
    ≡ c.args.first * n + (c.args.end - c.args.first) * n = omega arith in
    let span = ap (λ (e : ℕ). e * n) back ∙ parts in
    let size = ap length (c.deref.ensures.value ∙ c.page_into.ensures)
    ∙ length-page memory page c.shape.ensures.is_memory.len (omega (arith, c.loop-page-test.true, c.requires.within)) in
    omega (
      arith,
      c.in_default.ensures.full,
      size,
      c.loop-page.invariant.len,
      c.loop-page.invariant.capacity,
      c.requires.capacity,
      inside,
      span,
    )

pub loop-page-preserved : goal.loop-page-preserved
loop-page-preserved g c =
    let memory = g.M.PagedMemory.memory c.args.memory.now in
    let n = 2 ^ memory.shift in
    let page = c.loop-page.page in
    let first = c.args.first in
    let before = c.loop-page.invariant in
    let long = ap length c.page_into.ensures
    ∙ length-page memory page c.shape.ensures.is_memory.len (omega (arith, c.loop-page-test.true, c.requires.within)) in
    let rises : first * n ≤ page * n = mul-le-mul_right n before.rises in
    let next : page * n + n ≡ (page + 1) * n = omega arith in
    record {
      rises = omega (arith, before.rises);
      filled = c.in-Ok.ensures.items
          ∙ ap (λ (l : List ℕ). l ++ c.deref.result.now) before.filled
          ∙ ap (λ (l : List ℕ). between (first * n) (page * n) memory.bytes ++ l)
          (c.deref.ensures.value ∙ c.page_into.ensures)
          ∙ between_more (first * n) (page * n) (page * n + n) memory.bytes rises (omega arith)
          ∙ ap (λ (k : ℕ). between (first * n) k memory.bytes) next;
      len = omega (arith, c.in-Ok.ensures.len, before.len, ap length c.deref.ensures.value, long);
      long = long;
      capacity = omega (arith, before.capacity, c.in-Ok.ensures.capacity);
    }
