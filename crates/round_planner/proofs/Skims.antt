-- The pages of a round that are sent if those soon written again are skipped: found one by one, and why no other list
-- is what the definition says.
use Rattle.std.proofs.Common.{◌≡◌, ℕ, zero, suc, ◌+◌, ◌*◌, ◌/◌, ◌<◌, ◌≤◌, Bool, true, false, cond, not, ◌&&◌, eqb, leb}
use Rattle.std.proofs.Common.{ltb, List, [], ◌∷◌, ◌++◌, length, get_or, take, refl, sym, ap, ◌∙◌, append_assoc, inl}
use Rattle.std.proofs.Common.{inr, arith}
use Rattle.std.specs.List.{filter, fold, range_with_len}
use Rattle.std.proofs.lemmas.Bool.{cases_lt, le-ltb, lt-ltb, lt-leb, and_left, and_right}
use Rattle.std.proofs.lemmas.List.{append-nil, length-append, take_more}
use Rattle.std.proofs.lemmas.List.Folds.{list_any_none}
use Rattle.std.proofs.lemmas.List.Sums.{sum_by-cons, sum_by-append, fold-append}
use Rattle.migration_model.specs.Touches.{GuestTouch, is_written}
use Rattle.migration_model.specs.Rounds.{pages_below, IsSent}

-- a list in ascending order from a number on
abbrev pub Rises : ℕ → List ℕ → Type 0
Rises low [] = Unit {0}
Rises low (x ∷ xs) = (low ≤ x) × Rises (x + 1) xs

pub Rises-weaker : (low high : ℕ) (xs : List ℕ) → low ≤ high → Rises high xs → Rises low xs
Rises-weaker low high [] le rises = tt
Rises-weaker low high (x ∷ xs) le rises = (omega (arith, rises.0), rises.1)

Rises-kept : (b : Bool) (x low : ℕ) (xs : List ℕ) → low ≤ x → Rises (x + 1) xs → Rises low (cond b (x ∷ xs) xs)
Rises-kept true x low xs le rises = (le, rises)
Rises-kept false x low xs le rises = Rises-weaker low (x + 1) xs (omega arith) rises

-- what passes of an ascending list is ascending too
Rises-filter : (test : ℕ → Bool) (low : ℕ) (xs : List ℕ) → Rises low xs → Rises low (filter test xs)
Rises-filter test low [] rises = tt
Rises-filter test low (x ∷ xs) rises = Rises-kept (test x) x low (filter test xs) rises.0
    (Rises-filter test (x + 1) xs rises.1)

pub Rises-range : (a n : ℕ) → Rises a (range_with_len a n)
Rises-range a zero = tt
Rises-range a (suc n) = (omega arith, Rises-range (a + 1) n)

pub Rises-pages : (test : ℕ → Bool) (n : ℕ) → Rises 0 (filter test (range_with_len 0 n))
Rises-pages test n = Rises-filter test 0 (range_with_len 0 n) (Rises-range 0 n)

-- ---- how many of a list are below a number

abbrev one_if : Bool → ℕ
one_if b = cond b 1 0

below_cons : (page x : ℕ) (xs : List ℕ) → pages_below page (x ∷ xs) ≡ one_if (ltb x page) + pages_below page xs
below_cons page x xs = sum_by-cons (λ other. cond (ltb other page) 1 0) x xs

below_append : (page : ℕ) (xs ys : List ℕ) → pages_below page (xs ++ ys) ≡ pages_below page xs + pages_below page ys
below_append page xs ys = sum_by-append (λ other. cond (ltb other page) 1 0) xs ys

none_below : (page low : ℕ) (xs : List ℕ) → page ≤ low → Rises low xs → pages_below page xs ≡ 0
none_below page low [] le rises = refl
none_below page low (x ∷ xs) le rises =
    let head : one_if (ltb x page) ≡ 0 = ap one_if (le-ltb x page (omega (arith, rises.0))) in
    omega (arith, below_cons page x xs, head, none_below page (x + 1) xs (omega (arith, rises.0)) rises.1)

-- all of a list are below a number: it and those above it have the whole list below them
pub record AllBelow (low : ℕ) (xs : List ℕ) : Type 0 where
  pub counted : (page : ℕ) → low ≤ page → pages_below page xs ≡ length xs

pub AllBelow-nil : (low : ℕ) → AllBelow low []
AllBelow-nil low = record { counted = λ page le. refl }

AllBelow-weaker : (low high : ℕ) (xs : List ℕ) → low ≤ high → AllBelow low xs → AllBelow high xs
AllBelow-weaker low high xs le all = record { counted = λ page more. all.counted page (omega arith) }

AllBelow-push : (low x : ℕ) (xs : List ℕ) → low ≤ x → AllBelow low xs → AllBelow (x + 1) (xs ++ x ∷ [])
AllBelow-push low x xs le all = record {
  counted = λ page more.
      let one : one_if (ltb x page) ≡ 1 = ap one_if (lt-ltb x page (omega arith)) in
      omega (
        arith,
        below_append page xs (x ∷ []),
        below_cons page x [],
        one,
        all.counted page (omega arith),
        length-append xs (x ∷ []),
      );
}

-- ---- page by page

-- whether a page is sent after `sent` others
abbrev pub stays : List GuestTouch → ℕ → ℕ → ℕ → ℕ → Bool
stays touches from rate sent page = not (is_written touches from (from + 1_000 * sent / rate) page)

-- the pages sent so far with one more, if it stays
abbrev pub skim_one : List GuestTouch → ℕ → ℕ → List ℕ → ℕ → List ℕ
skim_one touches from rate sent page = cond (stays touches from rate (length sent) page) (sent ++ page ∷ []) sent

abbrev pub skim : List GuestTouch → ℕ → ℕ → List ℕ → List ℕ → List ℕ
skim touches from rate sent pages = fold (skim_one touches from rate) sent pages

-- the test of the definition
abbrev pub is_sent : List GuestTouch → ℕ → ℕ → List ℕ → ℕ → Bool
is_sent touches from rate sent page = not (is_written touches from (from + 1_000 * pages_below page sent / rate) page)

-- what the test says of a page that the pages sent so far are below, and the others not
decided : (touches : List GuestTouch) (from rate low q : ℕ) (sent others all : List ℕ) → AllBelow low sent → low ≤ q
    → Rises q others → all ≡ sent ++ others
    → is_sent touches from rate all q ≡ stays touches from rate (length sent) q
decided touches from rate low q sent others all below le rises is =
    let count : pages_below q all ≡ length sent =
    ap (pages_below q) is ∙ omega (
      arith,
      below_append q sent others,
      below.counted q le,
      none_below q q others (omega arith) rises,
    ) in
    ap (λ n. not (is_written touches from (from + 1_000 * n / rate) q)) count

-- what is shown of the rest of the pages, for whatever was sent before it
abbrev pub Keeps : List GuestTouch → ℕ → ℕ → List ℕ → List ℕ → Type 0
Keeps touches from rate pages all = (low : ℕ) (sent : List ℕ) → AllBelow low sent → Rises low pages
    → all ≡ skim touches from rate sent pages → all ≡ sent ++ filter (is_sent touches from rate all) pages

keeps_more : (touches : List GuestTouch) (from rate q : ℕ) (pages all : List ℕ) → Keeps touches from rate pages all
    → (low : ℕ) (sent : List ℕ) → AllBelow low sent → low ≤ q → Rises (q + 1) pages → (b : Bool)
    → b ≡ stays touches from rate (length sent) q
    → all ≡ skim touches from rate (cond b (sent ++ q ∷ []) sent) pages
    → all ≡ sent ++ filter (is_sent touches from rate all) (q ∷ pages)
keeps_more touches from rate q pages all rest low sent below le rises true b_is is =
    let keep = is_sent touches from rate all in
    let joined : all ≡ sent ++ q ∷ filter keep pages =
    rest (q + 1) (sent ++ q ∷ []) (AllBelow-push low q sent le below) rises is
    ∙ append_assoc sent (q ∷ []) (filter keep pages) in
    let here : keep q ≡ true =
    decided touches from rate low q sent (q ∷ filter keep pages) all below le
    (omega arith, Rises-filter keep (q + 1) pages rises) joined ∙ sym b_is in
    joined ∙ ap (λ b. sent ++ cond b (q ∷ filter keep pages) (filter keep pages)) (sym here)
keeps_more touches from rate q pages all rest low sent below le rises false b_is is =
    let keep = is_sent touches from rate all in
    let joined : all ≡ sent ++ filter keep pages =
    rest (q + 1) sent (AllBelow-weaker low (q + 1) sent (omega arith) below) rises is in
    let here : keep q ≡ false =
    decided touches from rate low q sent (filter keep pages) all below le
    (Rises-weaker q (q + 1) (filter keep pages) (omega arith) (Rises-filter keep (q + 1) pages rises)) joined
    ∙ sym b_is in
    joined ∙ ap (λ b. sent ++ cond b (q ∷ filter keep pages) (filter keep pages)) (sym here)

-- the list that is found is what the test keeps
keeps : (touches : List GuestTouch) (from rate : ℕ) (pages all : List ℕ) → Keeps touches from rate pages all
keeps touches from rate [] all low sent below rises is = is ∙ sym (append-nil sent)
keeps touches from rate (q ∷ pages) all low sent below rises is =
    keeps_more touches from rate q pages all (keeps touches from rate pages all) low sent below rises.0 rises.1
    (stays touches from rate (length sent) q) refl is

pub skim_is_sent : (touches : List GuestTouch) (from rate : ℕ) (pages : List ℕ) → Rises 0 pages
    → IsSent true touches from rate pages (skim touches from rate [] pages)
skim_is_sent touches from rate pages rises = keeps touches from rate pages (skim touches from rate [] pages) 0 []
    (AllBelow-nil 0) rises refl

-- ---- no other list is

abbrev pub IsOnly : List GuestTouch → ℕ → ℕ → List ℕ → List ℕ → Type 0
IsOnly touches from rate pages all = (low : ℕ) (sent : List ℕ) → AllBelow low sent → Rises low pages
    → all ≡ sent ++ filter (is_sent touches from rate all) pages → all ≡ skim touches from rate sent pages

only_more : (touches : List GuestTouch) (from rate q : ℕ) (pages all : List ℕ) → IsOnly touches from rate pages all
    → (low : ℕ) (sent : List ℕ) → AllBelow low sent → low ≤ q → Rises (q + 1) pages → (b : Bool)
    → b ≡ stays touches from rate (length sent) q
    → all ≡ sent ++ cond b (q ∷ filter (is_sent touches from rate all) pages)
    (filter (is_sent touches from rate all) pages)
    → all ≡ skim touches from rate (cond b (sent ++ q ∷ []) sent) pages
only_more touches from rate q pages all rest low sent below le rises true b_is is =
    rest (q + 1) (sent ++ q ∷ []) (AllBelow-push low q sent le below) rises
    (is ∙ sym (append_assoc sent (q ∷ []) (filter (is_sent touches from rate all) pages)))
only_more touches from rate q pages all rest low sent below le rises false b_is is =
    rest (q + 1) sent (AllBelow-weaker low (q + 1) sent (omega arith) below) rises is

only : (touches : List GuestTouch) (from rate : ℕ) (pages all : List ℕ) → IsOnly touches from rate pages all
only touches from rate [] all low sent below rises is = is ∙ append-nil sent
only touches from rate (q ∷ pages) all low sent below rises is =
    let keep = is_sent touches from rate all in
    let others : Rises q (filter keep (q ∷ pages)) = Rises-filter keep q (q ∷ pages) (omega arith, rises.1) in
    let here : keep q ≡ stays touches from rate (length sent) q =
    decided touches from rate low q sent (filter keep (q ∷ pages)) all below rises.0 others is in
    only_more touches from rate q pages all (only touches from rate pages all) low sent below rises.0 rises.1
    (stays touches from rate (length sent) q) refl
    (is ∙ ap (λ b. sent ++ cond b (q ∷ filter keep pages) (filter keep pages)) here)

pub sent_is_skim : (touches : List GuestTouch) (from rate : ℕ) (pages sent : List ℕ) → Rises 0 pages
    → IsSent true touches from rate pages sent
    → sent ≡ skim touches from rate [] pages
sent_is_skim touches from rate pages sent rises is = only touches from rate pages sent 0 [] (AllBelow-nil 0) rises is

-- if nothing is skipped, all pages are sent
pub filter_all : (pages : List ℕ) → filter (λ page. true) pages ≡ pages
filter_all [] = refl
filter_all (q ∷ pages) = ap (λ (l : List ℕ). q ∷ l) (filter_all pages)

pub sent_is_all : (touches : List GuestTouch) (from rate : ℕ) (pages sent : List ℕ)
    → IsSent false touches from rate pages sent → sent ≡ pages
sent_is_all touches from rate pages sent is = is ∙ filter_all pages

pub all_is_sent : (touches : List GuestTouch) (from rate : ℕ) (pages sent : List ℕ) → sent ≡ pages
    → IsSent false touches from rate pages sent
all_is_sent touches from rate pages sent is = is ∙ sym (filter_all pages)

-- ---- one more page, as the code finds it

pub skim_more : (touches : List GuestTouch) (from rate n page : ℕ) (pages sent new : List ℕ) (mark : Bool)
    → n < length pages → page ≡ get_or pages n page
    → sent ≡ skim touches from rate [] (take n pages) → mark
    ≡ is_written touches from (from + 1_000 * length sent / rate) page
    → new ≡ cond (not mark) (sent ++ page ∷ []) sent → new ≡ skim touches from rate [] (take (n + 1) pages)
skim_more touches from rate n page pages sent new mark low is sent_is mark_is new_is =
    let more : take (n + 1) pages ≡ take n pages ++ page ∷ [] = take_more pages n page low
    ∙ ap (λ (q : ℕ). take n pages ++ q ∷ []) (sym is) in
    new_is ∙ ap (λ b. cond (not b) (sent ++ page ∷ []) sent) mark_is
    ∙ ap (λ (kept : List ℕ). skim_one touches from rate kept page) sent_is
    ∙ sym (ap (λ (ps : List ℕ). skim touches from rate [] ps) more
    ∙ fold-append (skim_one touches from rate) [] (take n pages) (page ∷ []))

-- in no tick no page is written
never_between : (from to tick : ℕ) → to ≡ from → (leb from tick && ltb tick to) ≡ false
never_between from to tick is = elim (cases_lt tick to) [
  | inl early ↦ and_left _ _ (lt-leb from tick (omega arith))
  | inr late ↦ and_right _ _ (le-ltb tick to late)
]

pub never_written : (touches : List GuestTouch) (from to page : ℕ) → to ≡ from → is_written touches from to page ≡ false
never_written touches from to page is =
    list_any_none (λ (t : GuestTouch). eqb t.page page && (leb from t.tick && ltb t.tick to)) touches
    (λ k d low. and_right _ _ (never_between from to (get_or touches k d).tick is))
