-- How many of the drawn pages a round sends, and how many of them are in a set.
use Rattle.std.proofs.Common.{◌≡◌, ℕ, suc, ◌+◌, ◌*◌, ◌/◌, ◌<◌, ◌≤◌, Bool, true, false, cond, not, ◌&&◌}
use Rattle.std.proofs.Common.{List, [], ◌∷◌, ◌++◌, length, get_or, refl, sym, ap, ◌∙◌, arith}
use Rattle.std.specs.List.{count_by, filter, range_with_len}
use Rattle.std.proofs.lemmas.List.{append-nil, length_push}
use Rattle.std.proofs.lemmas.List.Elements.{filter-append}
use Rattle.std.proofs.lemmas.List.Sums.{fold-append, sum_by-cons}
use Rattle.std.proofs.Math.Nat.{div-mul-le_self}
use Rattle.std.proofs.lemmas.Nat.{le-div}
use Rattle.migration_model.specs.Touches.{GuestTouch, is_written}
use Rattle.migration_model.proofs.Ranges.{range_more}
use Rattle.page_bitmap.specs.Pages.{in_words}
use Rattle.look_planner.specs.DrawnPages.{places_in, redrawn_touches}
use Rattle.look_planner.proofs.DrawnPages.{written_redrawn}
use Rattle.round_planner.specs.Scanning.{IsScan}
use Rattle.round_planner.proofs.Counted.{looked_at, one_more}
use Rattle.round_planner.proofs.Skims.{skim, skim_one, stays}

-- ---- one drawn page

-- a page is sent if the round has it and it was not met
pub looked : (pages : ℕ) (touches : List GuestTouch) (from end next page sent : ℕ) (marks : List ℕ)
    (mark b listed : Bool) → IsScan pages touches from end next marks
    → page < pages → mark ≡ in_words marks page → mark ≡ b → listed ≡ true
    → one_more (not b) sent ≡ one_more (listed && not (is_written touches from end page)) sent
looked pages touches from end next page sent marks mark b listed scan low is b_is has =
    looked_at pages touches from end next page sent marks mark b scan low is b_is
    ∙ ap (λ x. one_more (x && not (is_written touches from end page)) sent) (sym has)

pub one_at_most : (b : Bool) (sent new : ℕ) → new ≡ one_more b sent → new ≤ sent + 1
one_at_most true sent new is = omega (arith, is)
one_at_most false sent new is = omega (arith, is)

-- a round goes on
pub later_tick : (from sent rate : ℕ) → 1 ≤ rate → from + 1_000 * sent / rate ≤ from + 1_000 * (sent + 1) / rate
later_tick from sent rate some =
    let low : 1_000 * sent / rate * rate ≤ 1_000 * sent = div-mul-le_self (1_000 * sent) rate in
    omega (arith, le-div (1_000 * sent / rate) (1_000 * (sent + 1)) rate (omega arith) (omega (arith, low)))

-- ---- how many pages are in a set

abbrev one_if : Bool → ℕ
one_if b = cond b 1 0

kept_len : (b : Bool) (x : ℕ) (xs : List ℕ) → length (cond b (x ∷ xs) xs) ≡ one_if b + length xs
kept_len true x xs = omega arith
kept_len false x xs = omega arith

counted : (f g : ℕ → Bool) (xs : List ℕ) (a : ℕ) → ((k : ℕ) → k < length xs → g (a + k) ≡ f (get_or xs k 0))
    → length (filter g (range_with_len a (length xs))) ≡ count_by f xs
counted f g [] a same = refl
counted f g (x ∷ xs) a same =
    let first : g (a + 0) ≡ f x = same 0 (omega arith) in
    let at : a ≡ a + 0 = omega arith in
    let here : one_if (g a) ≡ one_if (f x) = ap (λ n. one_if (g n)) at ∙ ap one_if first in
    let rest = filter g (range_with_len (a + 1) (length xs)) in
    let tail : length rest ≡ count_by f xs = counted f g xs (a + 1)
    (λ k low.
    let to : a + 1 + k ≡ a + (k + 1) = omega arith in
    let at : k + 1 ≡ suc k = omega arith in
    ap g to ∙ same (k + 1) (omega arith) ∙ ap (λ (j : ℕ). f (get_or (x ∷ xs) j 0)) at) in
    omega (arith, kept_len (g a) a rest, here, tail, sum_by-cons (λ y. one_if (f y)) x xs)

pub count_places : (drawn set : List ℕ) → length (places_in drawn set) ≡ count_by (in_words set) drawn
count_places drawn set = counted (in_words set) (λ place. in_words set (get_or drawn place 0)) drawn 0
    (λ k low. let at : 0 + k ≡ k = omega arith in ap (λ (j : ℕ). in_words set (get_or drawn j 0)) at)

-- ---- which of a round's pages are sent

pushed : (b : Bool) (page : ℕ) (list : List ℕ) → length (cond b (list ++ page ∷ []) list) ≡ one_more b (length list)
pushed true page list = length_push list page
pushed false page list = refl

skim_step : (touches : List GuestTouch) (from rate page sent new : ℕ) (pages : List ℕ) (b : Bool)
    → sent ≡ length (skim touches from rate [] pages)
    → new ≡ one_more (b && stays touches from rate sent page) sent
    → new ≡ length (skim touches from rate [] (pages ++ cond b (page ∷ []) []))
skim_step touches from rate page sent new pages true sent_is new_is =
    let list = skim touches from rate [] pages in
    new_is ∙ ap (λ m. one_more (stays touches from rate m page) m) sent_is
    ∙ sym (ap length (fold-append (skim_one touches from rate) [] pages (page ∷ []))
    ∙ pushed (stays touches from rate (length list) page) page list)
skim_step touches from rate page sent new pages false sent_is new_is =
    new_is ∙ sent_is ∙ ap (λ (ps : List ℕ). length (skim touches from rate [] ps)) (sym (append-nil pages))

-- one more drawn page is looked at
pub place_more : (drawn : List ℕ) (touches : List GuestTouch) (from rate n sent new : ℕ) (test : ℕ → Bool)
    → n < length drawn
    → sent ≡ length (skim (redrawn_touches drawn touches) from rate [] (filter test (range_with_len 0 n)))
    → new ≡ one_more (test n && not (is_written touches from (from + 1_000 * sent / rate) (get_or drawn n 0))) sent
    → new ≡ length (skim (redrawn_touches drawn touches) from rate [] (filter test (range_with_len 0 (n + 1))))
place_more drawn touches from rate n sent new test low sent_is new_is =
    let all = redrawn_touches drawn touches in
    let same : stays all from rate sent n ≡ not (is_written touches from (from + 1_000 * sent / rate)
    (get_or drawn n 0)) = ap not (written_redrawn drawn touches from (from + 1_000 * sent / rate) n low) in
    let more : filter test (range_with_len 0 (n + 1)) ≡ filter test (range_with_len 0 n) ++ cond (test n) (n ∷ []) [] =
    ap (filter test) (range_more n) ∙ filter-append test (range_with_len 0 n) (n ∷ []) in
    skim_step all from rate n sent new (filter test (range_with_len 0 n)) (test n) sent_is
    (new_is ∙ ap (λ b. one_more (test n && b) sent) (sym same))
    ∙ sym (ap (λ (ps : List ℕ). length (skim all from rate [] ps)) more)
