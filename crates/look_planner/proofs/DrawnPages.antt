-- When the pages of the guest of drawn pages are written, and which places are marked.
use Rattle.std.proofs.Common.{◌≡◌, ℕ, zero, suc, ◌+◌, ◌-◌, ◌<◌, ◌≤◌, Bool, true, false, cond, ◌&&◌, ◌||◌, eqb, leb, ltb}
use Rattle.std.proofs.Common.{List, [], ◌∷◌, length, get_or, map, drop, take, replicate, refl, sym, ap, ◌∙◌, inl, inr}
use Rattle.std.proofs.Common.{arith}
use Rattle.std.specs.List.{All, filter, list_any, range_with_len}
use Rattle.std.proofs.lemmas.Bool.{cases_eq, eq-eqb, ne_eqb, and_left, and_right}
use Rattle.std.proofs.lemmas.List.{length-replicate}
use Rattle.std.proofs.lemmas.List.Folds.{list_any-append}
use Rattle.std.proofs.Math.Bool.{or-false}
use Rattle.migration_model.specs.Looks.{SentList, is_among, pages_left}
use Rattle.migration_model.specs.Touches.{GuestTouch, touch_with, is_written, pages_written}
use Rattle.migration_model.proofs.Ranges.{filter_range_agree}
use Rattle.page_bitmap.specs.Listing.{pages_of, word_count}
use Rattle.page_bitmap.specs.Pages.{in_words}
use Rattle.page_bitmap.proofs.Bits.{no_words}
use Rattle.round_planner.specs.Scanning.{IsScan}
use Rattle.round_planner.proofs.Scans.{begun, mark_is}
use Rattle.round_planner.proofs.Skims.{filter_all}
use Rattle.look_planner.specs.Bitmaps.{IsListOf, IsListed, IsReady}
use Rattle.look_planner.specs.DrawnPages.{AreDrawn, places_in, places_of, redrawn_touches}
use Rattle.look_planner.specs.declared.bitmap.ListNumbers.{ListNumbers}
use Rattle.look_planner.specs.declared.pace.Sent.{Sent}
use Rattle.look_planner.proofs.Marks.{marked_are, not_among, not_sent, not_sent_low}

-- ---- when a page is written

any_kept : (b : Bool) (p : ℕ → Bool) (x : ℕ) (xs : List ℕ) → list_any p (cond b (x ∷ xs) xs)
    ≡ ((b && p x) || list_any p xs)
any_kept true p x xs = refl
any_kept false p x xs = refl

any_above : (p test : ℕ → Bool) (a n : ℕ) → ((j : ℕ) → a ≤ j → p j ≡ false)
    → list_any p (filter test (range_with_len a n)) ≡ false
any_above p test a zero none = refl
any_above p test a (suc n) none =
    let rest = filter test (range_with_len (a + 1) n) in
    let here : (test a && p a) ≡ false = and_right _ _ (none a (omega arith)) in
    let tail : list_any p rest ≡ false = any_above p test (a + 1) n (λ j low. none j (omega arith)) in
    any_kept (test a) p a rest ∙ (λ k. here k || tail k)

-- a number is among those of a range that pass a test exactly if it passes
any_place : (w : Bool) (test : ℕ → Bool) (i a n : ℕ) → a ≤ i → i < a + n
    → list_any (λ (j : ℕ). eqb j i && w) (filter test (range_with_len a n)) ≡ (test i && w)
any_place w test i a zero low high = absurd (omega arith)
any_place w test i a (suc n) low high =
    let p : ℕ → Bool = λ j. eqb j i && w in
    let rest = filter test (range_with_len (a + 1) n) in
    elim (cases_eq a i) [
      | inl same ↦
          let tail : list_any p rest ≡ false = any_above p test (a + 1) n
          (λ j above. and_left _ _ (ne_eqb j i (λ e. omega (arith, e, same, above)))) in
          any_kept (test a) p a rest ∙ ap (λ b. (test a && p a) || b) tail ∙ or-false _
          ∙ ap (λ b. test a && (b && w)) (eq-eqb a i same)
          ∙ ap (λ j. test j && w) same
      | inr other ↦
          let here : (test a && p a) ≡ false = and_right _ _ (and_left _ _ (ne_eqb a i other)) in
          any_kept (test a) p a rest ∙ ap (λ b. b || list_any p rest) here
          ∙ any_place w test i (a + 1) n (omega (arith, other)) (omega arith)
    ]

any_map : (p : GuestTouch → Bool) (f : ℕ → GuestTouch) (xs : List ℕ) → list_any p (map f xs)
    ≡ list_any (λ x. p (f x)) xs
any_map p f [] = refl
any_map p f (x ∷ xs) = ap (λ b. p (f x) || b) (any_map p f xs)

-- a page is written whenever the one that was drawn for it is
pub written_redrawn : (drawn : List ℕ) (touches : List GuestTouch) (from to i : ℕ) → i < length drawn
    → is_written (redrawn_touches drawn touches) from to i ≡ is_written touches from to (get_or drawn i 0)
written_redrawn drawn [] from to i low = refl
written_redrawn drawn (t ∷ touches) from to i low =
    let p : GuestTouch → Bool = λ t. eqb t.page i && (leb from t.tick && ltb t.tick to) in
    let w = leb from t.tick && ltb t.tick to in
    let copies : list_any p (map (touch_with t.tick) (places_of drawn t.page)) ≡ (eqb t.page (get_or drawn i 0) && w) =
    any_map p (touch_with t.tick) (places_of drawn t.page)
    ∙ any_place w (λ place. eqb t.page (get_or drawn place 0)) i 0 (length drawn) (omega arith) (omega arith) in
    let rest = written_redrawn drawn touches from to i low in
    list_any-append p (map (touch_with t.tick) (places_of drawn t.page)) (redrawn_touches drawn touches)
    ∙ (λ k. copies k || rest k)

-- the pages that were written are those that are marked
pub marked_places : (pages : ℕ) (touches : List GuestTouch) (drawn : List ℕ) (from to next : ℕ) (marks : List ℕ)
    → AreDrawn pages drawn → IsScan pages touches from to next marks
    → pages_written (length drawn) (redrawn_touches drawn touches) from to ≡ places_in drawn marks
marked_places pages touches drawn from to next marks are scan =
    filter_range_agree (λ place. in_words marks (get_or drawn place 0))
    (is_written (redrawn_touches drawn touches) from to) 0 (length drawn)
    (λ i low high.
    let inside : i < length drawn = omega (arith, high) in
    written_redrawn drawn touches from to i inside
    ∙ sym (mark_is pages touches from to next (get_or drawn i 0) marks scan (are.each i 0 inside)))

-- all pages, if all that were drawn are marked
pub all_places : (drawn set : List ℕ)
    → ((place : ℕ) → place < length drawn → in_words set (get_or drawn place 0) ≡ true)
    → range_with_len 0 (length drawn) ≡ places_in drawn set
all_places drawn set all =
    sym (filter_all (range_with_len 0 (length drawn)))
    ∙ filter_range_agree (λ place. in_words set (get_or drawn place 0)) (λ place. true) 0 (length drawn)
    (λ i low high. sym (all i (omega (arith, high))))

-- ---- which places are marked

-- one more place is marked, if its page is
pub place_marked : (first old new hits : ℕ → Bool) (n : ℕ) (b : Bool) → b ≡ hits n
    → ((p : ℕ) → new p ≡ (old p || (eqb p n && b))) → ((p : ℕ) → p < n → old p ≡ (first p || hits p))
    → ((p : ℕ) → n ≤ p → old p ≡ first p) → (p : ℕ) → p < n + 1 → new p ≡ (first p || hits p)
place_marked first old new hits n b is one are rest p low = elim (cases_eq p n) [
  | inl same ↦ one p ∙ ap (λ e. old p || (e && b)) (eq-eqb p n same)
      ∙ (λ i. rest p (omega (arith, same)) i || is i) ∙ ap (λ k. first p || hits k) (sym same)
  | inr other ↦ one p ∙ ap (λ e. old p || (e && b)) (ne_eqb p n other) ∙ or-false (old p)
      ∙ are p (omega (arith, other, low))
]

pub place_left : (first old new : ℕ → Bool) (n : ℕ) (b : Bool) → ((p : ℕ) → new p ≡ (old p || (eqb p n && b)))
    → ((p : ℕ) → n ≤ p → old p ≡ first p) → (p : ℕ) → n + 1 ≤ p → new p ≡ first p
place_left first old new n b one rest p high =
    one p ∙ ap (λ e. old p || (e && b)) (ne_eqb p n (λ e. omega (arith, e, high))) ∙ or-false (old p)
    ∙ rest p (omega (arith, high))

-- a place is marked if the page that was drawn for it is
hit : (pages : ℕ) (touches : List GuestTouch) (drawn : List ℕ) (from to next place : ℕ) (marks : List ℕ)
    → AreDrawn pages drawn → IsScan pages touches from to next marks → place < length drawn
    → in_words marks (get_or drawn place 0) ≡ is_written (redrawn_touches drawn touches) from to place
hit pages touches drawn from to next place marks are scan low =
    mark_is pages touches from to next (get_or drawn place 0) marks scan (are.each place 0 low)
    ∙ sym (written_redrawn drawn touches from to place low)

none_in : (n : ℕ) (words : List ℕ) → words ≡ replicate (word_count n) 0 → (place : ℕ)
    → in_words words place ≡ false
none_in n words clear place = ap (λ (m : List ℕ). in_words m place) clear ∙ no_words (word_count n) place

clear_len : (n : ℕ) (words : List ℕ) → words ≡ replicate (word_count n) 0 → length words ≡ word_count n
clear_len n words clear = ap (λ (m : List ℕ). length m) clear ∙ length-replicate (word_count n) 0

-- the places whose pages were written
pub places_since : (pages : ℕ) (touches : List GuestTouch) (drawn : List ℕ) (from to next : ℕ)
    (marks old new : List ℕ) → AreDrawn pages drawn → IsScan pages touches from to next marks
    → old ≡ replicate (word_count (length drawn)) 0 → length new ≡ length old
    → ((place : ℕ) → place < length drawn
    → in_words new place ≡ (in_words old place || in_words marks (get_or drawn place 0)))
    → ((place : ℕ) → length drawn ≤ place → in_words new place ≡ in_words old place)
    → pages_of new ≡ pages_written (length drawn) (redrawn_touches drawn touches) from to
places_since pages touches drawn from to next marks old new are scan clear len marked others =
    let none = none_in (length drawn) old clear in
    marked_are (length drawn) new (is_written (redrawn_touches drawn touches) from to)
    (len ∙ clear_len (length drawn) old clear)
    (λ place low. marked place low ∙ ap (λ b. b || in_words marks (get_or drawn place 0)) (none place)
    ∙ hit pages touches drawn from to next place marks are scan low)
    (λ place high. others place high ∙ none place)

-- the places that are left of a list, and those whose pages were written
pub places_left : (pages : ℕ) (touches : List GuestTouch) (drawn : List ℕ) (list : SentList)
    (rest marks old mid new : List ℕ) (next : ℕ) → AreDrawn pages drawn
    → IsScan pages touches list.from list.to next marks → old ≡ replicate (word_count (length drawn)) 0
    → length mid ≡ length old → length new ≡ length mid
    → ((place : ℕ) → in_words mid place ≡ (in_words old place || is_among place rest))
    → ((place : ℕ) → place < length drawn
    → in_words new place ≡ (in_words mid place || in_words marks (get_or drawn place 0)))
    → ((place : ℕ) → length drawn ≤ place → in_words new place ≡ in_words mid place)
    → rest ≡ drop list.sent list.pages → All (λ place. place < length drawn) rest
    → pages_of new ≡ pages_left (length drawn) (redrawn_touches drawn touches) list
places_left pages touches drawn list rest marks old mid new next are scan clear mid_len new_len unsent marked others is
    low =
    let n = length drawn in
    let all = redrawn_touches drawn touches in
    let among : (place : ℕ) → in_words mid place ≡ is_among place rest = λ place. unsent place
    ∙ ap (λ b. b || is_among place rest) (none_in n old clear place) in
    marked_are n new (λ place. is_among place (drop list.sent list.pages)
    || is_written all list.from list.to place) (new_len ∙ mid_len ∙ clear_len n old clear)
    (λ place inside. marked place inside
    ∙ (λ i. among place i || hit pages touches drawn list.from list.to next place marks are scan inside i)
    ∙ ap (λ (l : List ℕ). is_among place l || is_written all list.from list.to place) is)
    (λ place high. others place high ∙ among place ∙ not_among place n rest high low)

-- what is marked at a look is what the look finds
pub drawn_found : (pages : ℕ) (touches : List GuestTouch) (drawn : List ℕ) (now : ListNumbers) (sent : Sent)
    (marks old room marked mid new : List ℕ) (next : ℕ) (list : SentList) → AreDrawn pages drawn
    → IsReady pages touches now marks → old ≡ replicate (word_count (length drawn)) 0
    → IsListed (length drawn) now.listed room → now.from ≤ sent.to → sent.count ≤ now.listed
    → ((from upto : ℕ) → upto ≤ sent.to → IsScan pages touches from upto now.next marks
    → IsScan pages touches from sent.to next marked) → length mid ≡ length old
    → ((place : ℕ) → in_words mid place ≡ (in_words old place
    || is_among place (take (now.listed - sent.count) (drop sent.count room)))) → length new ≡ length mid
    → ((place : ℕ) → place < length drawn
    → in_words new place ≡ (in_words mid place || in_words marked (get_or drawn place 0)))
    → ((place : ℕ) → length drawn ≤ place → in_words new place ≡ in_words mid place)
    → IsListOf now sent room list
    → pages_of new ≡ pages_left (length drawn) (redrawn_touches drawn touches) list
drawn_found pages touches drawn now sent marks old room marked mid new next list are ready clear listed order count
    walked mid_len unsent new_len marks_are others is =
    let rest = take (now.listed - sent.count) (drop sent.count room) in
    let scan : IsScan pages touches now.from sent.to next marked = walked now.from now.from order
    (begun pages touches now.from now.next marks ready.bound ready.point ready.clear) in
    let rest_is : rest ≡ drop list.sent list.pages = not_sent room now.listed sent.count count
    ∙ (λ i. drop (sym is.sent_is i) (sym is.pages_are i)) in
    places_left pages touches drawn list rest marked old mid new next are (rw (is.from_is, is.to_is) scan) clear
    mid_len new_len unsent marks_are others rest_is
    (not_sent_low (length drawn) now.listed sent.count room count listed.list)
