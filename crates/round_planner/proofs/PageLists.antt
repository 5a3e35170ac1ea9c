-- Lists of pages.
use Rattle.std.proofs.Common.{ℕ, zero, suc, ◌+◌, ◌<◌, ◌≤◌, Bool, true, false, cond, List, ◌∷◌, length, ap, arith}
use Rattle.std.specs.List.{All, AllByRecursion, filter, range_with_len}
use Rattle.std.proofs.lemmas.List.Elements.{All-from_recursion}
use Rattle.page_bitmap.proofs.Listed.{few_pages}
use Rattle.round_planner.specs.Scanning.{IsPageList}
use Rattle.round_planner.proofs.Skims.{Rises, Rises-pages}

low_kept : (b : Bool) (n x : ℕ) (xs : List ℕ) → x < n → AllByRecursion (λ p. p < n) xs
    → AllByRecursion (λ p. p < n) (cond b (x ∷ xs) xs)
low_kept true n x xs low all = (low, all)
low_kept false n x xs low all = all

all_low : (test : ℕ → Bool) (n a m : ℕ) → a + m ≤ n → AllByRecursion (λ p. p < n) (filter test (range_with_len a m))
all_low test n a zero bound = tt
all_low test n a (suc m) bound = low_kept (test a) n a (filter test (range_with_len (a + 1) m)) (omega arith)
    (all_low test n (a + 1) m (omega arith))

pub list_low : (pages : ℕ) (list : List ℕ) → IsPageList pages list → All (λ p. p < pages) list
list_low pages list is =
    rw is.list_is (All-from_recursion (λ p. p < pages) (filter is.test (range_with_len 0 pages))
    (all_low is.test pages 0 pages (omega arith)))

pub list_few : (pages : ℕ) (list : List ℕ) → IsPageList pages list → length list ≤ 65_536
list_few pages list is = omega (arith, ap length is.list_is, few_pages is.test 0 pages, is.few)

pub list_rises : (pages : ℕ) (list : List ℕ) → IsPageList pages list → Rises 0 list
list_rises pages list is = rw is.list_is (Rises-pages is.test pages)
