-- How many pages are sent, found page by page.
use Rattle.std.proofs.Common.{◌≡◌, ℕ, ◌+◌, Bool, true, false, cond, not, List, [], ◌∷◌, ◌++◌, length, take, set}
use Rattle.std.proofs.Common.{sym, ap, ◌∙◌, ◌<◌, ◌≤◌, arith}
use Rattle.std.proofs.lemmas.List.{take_more_set, take-set}
use Rattle.migration_model.specs.Touches.{GuestTouch, is_written}
use Rattle.page_bitmap.specs.Pages.{in_words}
use Rattle.round_planner.specs.Scanning.{IsScan}
use Rattle.round_planner.proofs.Scans.{mark_is}

abbrev pub one_more : Bool → ℕ → ℕ
one_more b n = cond b (n + 1) n

-- a page is stored behind those sent so far, and stays there if it is sent too
pub stored : (b : Bool) (room : List ℕ) (sent new page : ℕ) → sent < length room → new ≡ cond b (sent + 1) sent
    → take new (set room sent page) ≡ cond b (take sent room ++ page ∷ []) (take sent room)
stored true room sent new page low is = ap (λ n. take n (set room sent page)) is ∙ take_more_set room sent page low
stored false room sent new page low is = ap (λ n. take n (set room sent page)) is ∙ take-set room sent page

pub one_at_most : (b : Bool) (sent new : ℕ) → new ≡ cond b (sent + 1) sent → new ≤ sent + 1
one_at_most true sent new is = omega (arith, is)
one_at_most false sent new is = omega (arith, is)

-- a page of the round is sent if it was not met
pub looked_at : (pages : ℕ) (touches : List GuestTouch) (from end n page sent : ℕ) (marks : List ℕ) (mark b : Bool)
    → IsScan pages touches from end n marks
    → page < pages → mark ≡ in_words marks page → mark ≡ b → one_more (not b) sent
    ≡ one_more (not (is_written touches from end page)) sent
looked_at pages touches from end n page sent marks mark b scan low is b_is =
    let met : b ≡ is_written touches from end page =
    sym b_is ∙ is ∙ mark_is pages touches from end n page marks scan low in
    ap (λ x. one_more (not x) sent) met
