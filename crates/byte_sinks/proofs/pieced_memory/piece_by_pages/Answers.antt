use Rattle.std.proofs.Common.{◌≡◌, ◌+◌, ◌-◌, ◌*◌, ◌^◌, ◌≤◌, ℕ, min, ap, ◌∙◌, arith}
use Rattle.std.proofs.Math.Nat.{mul-le-mul_right}
use Rattle.migration_model.specs.Memory.{GuestMemory}
use Rattle.byte_sinks.proofs.Cuts.{pages_cut, piece_bytes}
use Rattle.byte_sinks.proofs.pieced_memory.piece_by_pages.Goals as goal

-- so many pages of some memory are a piece
size_is : (pages shift mine : ℕ) → pages ≡ 2 ^ (18 - mine) → mine ≡ shift → shift ≤ 12 → pages * 2 ^ shift ≡ 2 ^ 18
size_is pages shift mine is same low =
    ap (λ (n : ℕ). n * 2 ^ shift) (is ∙ ap (λ (s : ℕ). 2 ^ (18 - s)) same) ∙ piece_bytes shift low

pub fill_piece-requires-clause-capacity : goal.fill_piece-requires-clause-capacity
fill_piece-requires-clause-capacity g c =
    let memory = g.M.PagedMemory.memory c.args.memory.now in
    let pages = c.piece_pages-pages.result in
    let shape = c.shape-shape.ensures in
    let size = size_is pages memory.shift c.shape-shape.result.shift c.piece_pages-pages.ensures shape.shift
    shape.is_memory.size.shift_high in
    let short : c.min-end.result - c.min-first.result ≤ pages = omega
    (arith, c.min-first.ensures, c.min-end.ensures) in
    omega (arith, mul-le-mul_right (2 ^ memory.shift) short, size, c.requires.capacity)

pub returns-clause-made : goal.returns-clause-made
returns-clause-made g c =
    let memory = g.M.PagedMemory.memory c.args.memory.now in
    let pages = c.piece_pages-pages.result in
    let number = c.args.number in
    let shape = c.shape-shape.ensures in
    let size = size_is pages memory.shift c.shape-shape.result.shift c.piece_pages-pages.ensures shape.shift
    shape.is_memory.size.shift_high in
    c.fill_piece.ensures.filled
    ∙ pages_cut memory number pages c.min-first.result c.min-end.result size shape.is_memory.len
    (c.min-first.ensures ∙ ap (min (number * pages)) shape.pages)
    (c.min-end.ensures ∙ ap (min (number * pages + pages)) shape.pages)
