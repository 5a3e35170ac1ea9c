-- Marks, and the pages that they list.
use Rattle.std.proofs.Common.{◌≡◌, ℕ, ◌+◌, ◌-◌, ◌*◌, ◌<◌, ◌≤◌, Bool, true, false, ◌||◌, eqb, List, [], ◌∷◌, ◌++◌}
use Rattle.std.proofs.Common.{length, get_or, take, drop, replicate, ltb, refl, sym, ap, ◌∙◌, arith}
use Rattle.std.specs.List.{All, filter, range_with_len}
use Rattle.std.proofs.lemmas.Bool.{ne_eqb, lt-ltb, le-ltb}
use Rattle.std.proofs.lemmas.List.{append-nil, drop-take, take_more}
use Rattle.std.proofs.lemmas.List.Elements.{All-drop, All-same, filter-append}
use Rattle.std.proofs.lemmas.List.Folds.{list_any-append, list_any_none}
use Rattle.std.proofs.Math.Bool.{or-false, or_assoc, or_comm}
use Rattle.migration_model.specs.Looks.{SentList, is_among, pages_left}
use Rattle.migration_model.specs.Touches.{GuestTouch, is_written}
use Rattle.migration_model.proofs.Ranges.{filter_range_agree}
use Rattle.page_bitmap.specs.Pages.{in_words}
use Rattle.page_bitmap.specs.Listing.{pages_of, word_count}
use Rattle.page_bitmap.proofs.Listed.{few_pages, none_kept, range_split}
use Rattle.round_planner.specs.Scanning.{IsPageList, IsScan}
use Rattle.round_planner.proofs.PageLists.{list_low}
use Rattle.round_planner.proofs.Scans.{begun, mark_is}
use Rattle.round_planner.proofs.Skims.{filter_all}
use Rattle.look_planner.specs.Bitmaps.{IsListOf, IsListed, IsReady}
use Rattle.look_planner.specs.declared.bitmap.ListNumbers.{ListNumbers}
use Rattle.look_planner.specs.declared.pace.Sent.{Sent}

-- one more of the pages is marked
pub among_more : (page item index : ℕ) (pages : List ℕ) (old new : Bool) → index < length pages
    → item ≡ get_or pages index 0 → new ≡ (old || eqb page item)
    → (first : Bool) → old ≡ (first || is_among page (take index pages))
    → new ≡ (first || is_among page (take (index + 1) pages))
among_more page item index pages old new low item_is new_is first old_is =
    let one : is_among page (take (index + 1) pages) ≡ (is_among page (take index pages) || eqb page item) =
    ap (is_among page) (take_more pages index 0 low)
    ∙ list_any-append (λ other. eqb page other) (take index pages) (get_or pages index 0 ∷ [])
    ∙ ap (λ b. is_among page (take index pages) || b) (or-false (eqb page (get_or pages index 0))
    ∙ ap (eqb page) (sym item_is)) in
    new_is ∙ ap (λ b. b || eqb page item) old_is
    ∙ or_assoc first (is_among page (take index pages)) (eqb page item)
    ∙ ap (λ b. first || b) (sym one)

-- the pages that are marked are those of a guest that pass a test, if no page past its last one is marked
pub marked_are : (pages : ℕ) (marks : List ℕ) (test : ℕ → Bool) → length marks ≡ word_count pages
    → ((page : ℕ) → page < pages → in_words marks page ≡ test page)
    → ((page : ℕ) → pages ≤ page → in_words marks page ≡ false)
    → pages_of marks ≡ filter test (range_with_len 0 pages)
marked_are pages marks test len are none =
    let all = length marks * 64 in
    let more : pages ≤ all = omega (arith, len) in
    let rest = filter (in_words marks) (range_with_len pages (all - pages)) in
    let no_rest : rest ≡ [] = none_kept (in_words marks) pages (all - pages) (λ page low high. none page low) in
    ap (filter (in_words marks)) (range_split 0 pages pages (all - pages) all (omega (arith, more)) (omega arith))
    ∙ filter-append (in_words marks) (range_with_len 0 pages) (range_with_len pages (all - pages))
    ∙ ap (λ (l : List ℕ). filter (in_words marks) (range_with_len 0 pages) ++ l) no_rest
    ∙ append-nil (filter (in_words marks) (range_with_len 0 pages))
    ∙ filter_range_agree test (in_words marks) 0 pages (λ page low high. are page (omega (arith, high)))

-- a page that none of these is
pub not_among : (page pages : ℕ) (list : List ℕ) → pages ≤ page → All (λ other. other < pages) list
    → is_among page list ≡ false
not_among page pages list high low = list_any_none (λ other. eqb page other) list (λ k d inside. ne_eqb page
    (get_or list k d) (λ e. omega (arith, e, high, low k d inside)))

-- what is marked at a look: the pages that were written, and those of a list that were not sent
pub left_are : (pages : ℕ) (touches : List GuestTouch) (list : SentList) (rest marks new : List ℕ) (n : ℕ)
    → IsScan pages touches list.from list.to n marks → length new ≡ length marks
    → ((page : ℕ) → in_words new page ≡ (in_words marks page || is_among page rest))
    → rest ≡ drop list.sent list.pages → All (λ page. page < pages) rest
    → pages_of new ≡ pages_left pages touches list
left_are pages touches list rest marks new n scan len are is low = marked_are pages new (λ page. is_among page
    (drop list.sent list.pages) || is_written touches list.from list.to page) (len ∙ scan.met.len)
    (λ page inside. are page
    ∙ ap (λ b. b || is_among page rest) (mark_is pages touches list.from list.to n page marks scan inside)
    ∙ or_comm (is_written touches list.from list.to page) (is_among page rest)
    ∙ ap (λ (l : List ℕ). is_among page l || is_written touches list.from list.to page) is)
    (λ page high. are page ∙ ap (λ b. b || is_among page rest) (scan.met.none page high)
    ∙ not_among page pages rest high low)

-- marks for all pages
pub all_marked : (pages : ℕ) (marks : List ℕ) → length marks ≡ word_count pages
    → ((page : ℕ) → in_words marks page ≡ ltb page pages) → pages_of marks ≡ range_with_len 0 pages
all_marked pages marks len are = marked_are pages marks (λ page. true) len
    (λ page low. are page ∙ lt-ltb page pages low) (λ page high. are page ∙ le-ltb page pages high)
    ∙ filter_all (range_with_len 0 pages)

-- the pages of a list that are not sent
pub not_sent : (room : List ℕ) (listed sent : ℕ) → sent ≤ listed
    → take (listed - sent) (drop sent room) ≡ drop sent (take listed room)
not_sent room listed sent few = sym (drop-take sent (listed - sent) room)
    ∙ ap (λ n. drop sent (take n room)) (omega (arith, few))

-- and they are pages of the guest
pub not_sent_low : (pages listed sent : ℕ) (room : List ℕ) → sent ≤ listed → IsPageList pages (take listed room)
    → All (λ page. page < pages) (take (listed - sent) (drop sent room))
not_sent_low pages listed sent room few list = All-same (λ page. page < pages) (take (listed - sent) (drop sent room))
    (drop sent (take listed room)) (not_sent room listed sent few)
    (All-drop (λ page. page < pages) sent (take listed room) (list_low pages (take listed room) list))

-- what is marked at a look is what the look finds
pub found_are : (pages : ℕ) (touches : List GuestTouch) (now : ListNumbers) (sent : Sent)
    (marks room marked new : List ℕ) (next : ℕ) (list : SentList) → IsReady pages touches now marks
    → IsListed pages now.listed room → now.from ≤ sent.to → sent.count ≤ now.listed
    → ((from upto : ℕ) → upto ≤ sent.to → IsScan pages touches from upto now.next marks
    → IsScan pages touches from sent.to next marked) → length new ≡ length marked
    → ((page : ℕ) → in_words new page ≡ (in_words marked page
    || is_among page (take (now.listed - sent.count) (drop sent.count room))))
    → IsListOf now sent room list → pages_of new ≡ pages_left pages touches list
found_are pages touches now sent marks room marked new next list ready listed order count walked len are is =
    let rest = take (now.listed - sent.count) (drop sent.count room) in
    let scan : IsScan pages touches now.from sent.to next marked = walked now.from now.from order
    (begun pages touches now.from now.next marks ready.bound ready.point ready.clear) in
    let rest_is : rest ≡ drop list.sent list.pages = not_sent room now.listed sent.count count
    ∙ (λ i. drop (sym is.sent_is i) (sym is.pages_are i)) in
    left_are pages touches list rest marked new next (rw (is.from_is, is.to_is) scan) len are rest_is
    (not_sent_low pages now.listed sent.count room count listed.list)

-- the list of these numbers, if it is sent so
abbrev pub list_of : ListNumbers → Sent → List ℕ → SentList
list_of now sent room =
    record { from = now.from; to = sent.to; pages = take now.listed room; sent = sent.count }

pub list_of_is : (now : ListNumbers) (sent : Sent) (room : List ℕ) → IsListOf now sent room (list_of now sent room)
list_of_is now sent room = record { from_is = refl; to_is = refl; pages_are = refl; sent_is = refl }

-- the next list begins where the walk is
pub ready_next : (pages : ℕ) (touches : List GuestTouch) (now later : ListNumbers) (to : ℕ) (marks marked new : List ℕ)
    (next : ℕ) → IsReady pages touches now marks → now.from ≤ to
    → ((from upto : ℕ) → upto ≤ to → IsScan pages touches from upto now.next marks
    → IsScan pages touches from to next marked) → new ≡ replicate (word_count pages) 0 → later.from ≡ to
    → later.next ≡ next → IsReady pages touches later new
ready_next pages touches now later to marks marked new next ready order walked clear from at =
    let scan : IsScan pages touches now.from to next marked = walked now.from now.from order
    (begun pages touches now.from now.next marks ready.bound ready.point ready.clear) in
    record { clear = clear; bound = rw at scan.bound; point = rw (from, at) scan.point }

-- and its pages are what the look finds
pub listed_next : (pages : ℕ) (touches : List GuestTouch) (list : SentList) (room : List ℕ) (found : ℕ)
    → pages ≤ 65_536 → length room ≡ pages → take found room ≡ pages_left pages touches list
    → found ≡ length (pages_left pages touches list) → IsListed pages found room
listed_next pages touches list room found few len are count =
    let test : ℕ → Bool = λ page. is_among page (drop list.sent list.pages)
    || is_written touches list.from list.to page in
    record {
      room_len = len;
      few = omega (arith, count, few_pages test 0 pages);
      list = record { test = test; few = few; list_is = are };
    }
