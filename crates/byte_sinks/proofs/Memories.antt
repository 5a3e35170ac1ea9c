-- Memory and its pages.
use Rattle.std.proofs.Common.{◌≡◌, ℕ, suc, ◌-◌, ◌*◌, ◌^◌, ◌+◌, ◌<◌, ◌≤◌, length, take, drop, ap, ◌∙◌, arith}
use Rattle.std.proofs.Math.Nat.{mul-le-mul_right}
use Rattle.std.proofs.lemmas.List.{length-take-le, length-drop}
use Rattle.migration_model.specs.Memory.{GuestMemory, page_of}

-- a page of memory has the size of a page
pub length-page : (memory : GuestMemory) (page : ℕ) → length memory.bytes ≡ memory.pages * 2 ^ memory.shift
    → page < memory.pages
    → length (page_of memory page) ≡ 2 ^ memory.shift
length-page memory page len low =
    let n = 2 ^ memory.shift in
    let end : suc page * n ≤ memory.pages * n = mul-le-mul_right n low in
    let width : page * n + n - page * n ≡ n = omega arith in
    ap (λ (k : ℕ). length (take k (drop (page * n) memory.bytes))) width
    ∙ length-take-le n (drop (page * n) memory.bytes) (omega (arith, end, len, length-drop (page * n) memory.bytes))
