-- A plan list by list: what holds between its lists, and what it is at its end.
use Rattle.std.proofs.Common.{◌≡◌, ℕ, ◌+◌, ◌-◌, ◌*◌, ◌≤◌, min, Bool, true, false, cond, ltb, Option, Some, None, List}
use Rattle.std.proofs.Common.{[], ◌∷◌, ◌++◌, length, map, take, drop, ◌||◌, MatchOption, refl, sym, ap, subst, ◌∙◌}
use Rattle.std.proofs.Common.{append_assoc, arith}
use Rattle.std.proofs.Math.Nat.{mul-le-mul_right}
use Rattle.std.proofs.lemmas.Bool.{ltb-false}
use Rattle.std.proofs.lemmas.List.{length-map, length-take-le, length_push, map-append}
use Rattle.std.proofs.lemmas.List.Sums.{sum_by-append, sum_by-cons}
use Rattle.migration_model.specs.Looks.{AreHypervisorSettings, AreLists, HypervisorPlan, HypervisorSettings}
use Rattle.migration_model.specs.Looks.{IsHypervisorPlan, IsLook, IsPlanEnd, IsSentList, NextList, PlanEnd, SentList}
use Rattle.migration_model.specs.Looks.{end_after, few_left, first_list, is_among, is_most, list_after, looks_done}
use Rattle.migration_model.specs.Looks.{pages_left}
use Rattle.migration_model.specs.Looks.{record_ends, sent_in, sent_of}
use Rattle.migration_model.specs.Rates.{duration_of}
use Rattle.migration_model.specs.Rounds.{pages_lacking}
use Rattle.migration_model.specs.Touches.{GuestTouch, is_written}
use Rattle.page_bitmap.proofs.Listed.{few_pages}
use Rattle.round_planner.specs.Scanning.{IsPageList}
use Rattle.round_planner.proofs.Skims.{filter_all}
use Rattle.std.specs.List.{range_with_len}
use Rattle.look_planner.specs.Bitmaps.{IsFirst, IsListOf, IsListed}
use Rattle.look_planner.specs.Pacing.{IsSentSo}
use Rattle.look_planner.specs.Plans.{AreNumbers, IsSmall, PlanNumbers, row_of}
use Rattle.look_planner.specs.declared.bitmap.ListNumbers.{ListNumbers}
use Rattle.look_planner.specs.declared.pace.Sent.{Sent}
use Rattle.look_planner.specs.declared.parts.ListRow.{ListRow}
use Rattle.look_planner.proofs.Marks.{list_of, list_of_is}

-- ---- the first list

-- the pages that a destination lacks
pub lacking_list : (pages : ℕ) (touches : List GuestTouch) (base : Option ℕ) (tick : ℕ) (list : List ℕ)
    → pages ≤ 65_536 → list ≡ pages_lacking pages touches base tick → IsPageList pages list
lacking_list pages touches None tick list few is =
    record { test = λ page. true; few = few; list_is = is ∙ sym (filter_all (range_with_len 0 pages)) }
lacking_list pages touches (Some base) tick list few is =
    record { test = is_written touches base tick; few = few; list_is = is }

pub list_within : (pages : ℕ) (list : List ℕ) → IsPageList pages list → length list ≤ pages
list_within pages list is = omega (arith, ap (λ (l : List ℕ). length l) is.list_is, few_pages is.test 0 pages)

-- ---- from list to list

-- the lists so far with whatever follows
abbrev pub Follows : ℕ → List GuestTouch → HypervisorSettings → NextList → List SentList → Type 0
Follows pages touches s now lists = (rest : List SentList) (plan : HypervisorPlan)
    → AreLists pages touches s now rest plan
    → AreLists pages touches s (first_list pages touches s) (lists ++ rest) plan

-- a list that came next
pub record Came (s : HypervisorSettings) (now : NextList) (list : SentList) (ticks : ℕ) : Type 0 where
  pub look : IsLook s (length now.pages) ticks
  pub is : IsSentList s now ticks list

pub came : (s : HypervisorSettings) (coming : NextList) (now : ListNumbers) (sent : Sent) (room : List ℕ)
    → (so : IsSentSo s now.from now.listed sent) → coming.from ≡ now.from → coming.pages ≡ take now.listed room
    → now.listed ≤ length room → Came s coming (list_of now sent room) so.ticks
came s coming now sent room so from is few =
    let count : now.listed ≡ length coming.pages = sym (ap (λ (l : List ℕ). length l) is
    ∙ length-take-le now.listed room few) in
    record {
      look = subst (λ (n : ℕ). IsLook s n so.ticks) count so.look;
      is = record {
        from_is = sym from;
        to_is = so.to_is ∙ ap (λ t. min (t + so.ticks) s.end) (sym from);
        pages_are = sym is;
        sent_is = so.count_is ∙ (λ i. sent_in s.rate (count i) (sent.to - sym from i));
      };
    }

pub follows_more : (pages : ℕ) (touches : List GuestTouch) (s : HypervisorSettings) (now : NextList)
    (lists : List SentList) (list : SentList) (ticks : ℕ) → Came s now list ticks
    → end_after s (now.from + ticks) (length (pages_left pages touches list)) (now.done + 1) ≡ None
    → Follows pages touches s now lists
    → Follows pages touches s (list_after pages touches now list) (lists ++ list ∷ [])
follows_more pages touches s now lists list ticks c none before rest plan are =
    let Next : Type 0 = AreLists pages touches s (list_after pages touches now list) rest plan in
    let End : PlanEnd → Type 0 = λ end. (rest ≡ []) × IsPlanEnd pages touches s list end plan in
    let either : MatchOption (end_after s (now.from + ticks) (length (pages_left pages touches list)) (now.done + 1))
    Next End = subst (λ (o : Option PlanEnd). MatchOption o Next End) (sym none) are in
    let D : List SentList → Type 0 = λ ls. AreLists pages touches s (first_list pages touches s) ls plan in
    subst D (sym (append_assoc lists (list ∷ []) rest)) (before (list ∷ rest) plan (ticks, c.look, c.is, either))

pub follows_end : (pages : ℕ) (touches : List GuestTouch) (s : HypervisorSettings) (now : NextList)
    (lists : List SentList) (list : SentList) (ticks : ℕ) (end : PlanEnd) (plan : HypervisorPlan)
    → Came s now list ticks → end_after s (now.from + ticks) (length (pages_left pages touches list)) (now.done + 1)
    ≡ Some end → plan.lists ≡ lists ++ list ∷ [] → IsPlanEnd pages touches s list end plan
    → Follows pages touches s now lists → IsHypervisorPlan pages touches s plan
follows_end pages touches s now lists list ticks end plan c some is ends before =
    let none : List SentList = [] in
    let Next : Type 0 = AreLists pages touches s (list_after pages touches now list) none plan in
    let End : PlanEnd → Type 0 = λ why. (none ≡ []) × IsPlanEnd pages touches s list why plan in
    let either : MatchOption (end_after s (now.from + ticks) (length (pages_left pages touches list)) (now.done + 1))
    Next End = subst (λ (o : Option PlanEnd). MatchOption o Next End) (sym some) (refl, ends) in
    let D : List SentList → Type 0 = λ ls. AreLists pages touches s (first_list pages touches s) ls plan in
    subst D (sym is) (before (list ∷ []) plan (ticks, c.look, c.is, either))

-- ---- what the numbers say

-- what holds if another list comes
tested : (late few done : Bool) → cond late (Some record_ends) (cond few (Some few_left)
    (cond done (Some looks_done) None)) ≡ None → (late ≡ false) × (few ≡ false)
tested true few done is = absurd cc
tested false true done is = absurd cc
tested false false done is = (refl, refl)

pub goes : (s : HypervisorSettings) (tick found looks : ℕ) → end_after s tick found looks ≡ None
    → (tick ≤ s.end) × (s.threshold ≤ found)
goes s tick found looks is =
    let t = tested (ltb s.end tick) (ltb found s.threshold) (is_most s.looks looks) is in
    (ltb-false _ _ t.0, ltb-false _ _ t.1)

-- no more pages are sent than 1,000 in each tick
pub slow : (s : HypervisorSettings) (pages ticks : ℕ) → AreHypervisorSettings s
    → sent_in s.rate pages ticks ≤ 1_000 * ticks
slow s pages ticks are =
    let most : s.rate * ticks ≤ 1_000_000 * ticks = mul-le-mul_right ticks are.rate_high in
    omega (arith, most)

sent_push : (lists : List SentList) (list : SentList) → sent_of (lists ++ list ∷ []) ≡ sent_of lists + list.sent
sent_push lists list =
    let one = sum_by-cons (λ (l : SentList). l.sent) list [] in
    omega (arith, sum_by-append (λ (l : SentList). l.sent) lists (list ∷ []), one)

-- the row that the numbers of a list make
abbrev pub row_with : ListNumbers → Sent → ℕ → ListRow
row_with now sent left =
    record { from = now.from; to = sent.to; pages = now.listed; sent = sent.count; left = left }

row_is : (pages : ℕ) (touches : List GuestTouch) (now : ListNumbers) (sent : Sent) (room : List ℕ) (left : ℕ)
    → now.listed ≤ length room → left ≡ length (pages_left pages touches (list_of now sent room))
    → row_with now sent left ≡ row_of pages touches (list_of now sent room)
row_is pages touches now sent room left few is =
    let count : now.listed ≡ length (take now.listed room) = sym (length-take-le now.listed room few) in
    λ i. record { from = now.from; to = sent.to; pages = count i; sent = sent.count; left = is i }

rows_more : (pages : ℕ) (touches : List GuestTouch) (lists : List SentList) (list : SentList) (row : ListRow)
    (rows new : List ListRow) → row ≡ row_of pages touches list → rows ≡ map (row_of pages touches) lists
    → new ≡ rows ++ row ∷ [] → new ≡ map (row_of pages touches) (lists ++ list ∷ [])
rows_more pages touches lists list row rows new row_is rows_are is =
    is ∙ (λ i. rows_are i ++ row_is i ∷ []) ∙ sym (map-append (row_of pages touches) lists (list ∷ []))

-- ---- between lists

-- the lists so far, of which the code keeps the numbers, and the one that comes
pub record IsOnWay (pages : ℕ) (touches : List GuestTouch) (s : HypervisorSettings) (now : ListNumbers)
    (room : List ℕ) (rows : List ListRow) (total : ℕ) : Type 0 where
  pub coming : NextList
  pub lists : List SentList
  pub follows : Follows pages touches s coming lists
  pub in_range : AreHypervisorSettings s
  pub listed : IsListed pages now.listed room
  pub from_is : coming.from ≡ now.from
  pub pages_are : coming.pages ≡ take now.listed room
  pub done_is : coming.done ≡ length lists
  pub rows_are : rows ≡ map (row_of pages touches) lists
  pub total_is : total ≡ sent_of lists
  pub slow : total ≤ 1_000 * now.from
  pub high : now.from ≤ s.end

pub starts : (pages : ℕ) (touches : List GuestTouch) (s : HypervisorSettings) (now : ListNumbers) (room : List ℕ)
    (rows : List ListRow) → IsFirst pages touches s now room → rows ≡ [] → IsOnWay pages touches s now room rows 0
starts pages touches s now room rows first none = record {
  coming = first_list pages touches s;
  lists = [];
  follows = λ rest plan are. are;
  in_range = first.in_range;
  listed = first.listed;
  from_is = sym first.from_is;
  pages_are = sym first.pages_are;
  done_is = refl;
  rows_are = none;
  total_is = refl;
  slow = omega arith;
  high = omega (arith, first.from_is, first.in_range.start_high);
}

-- what the look after a list found
pub record HasFound (pages : ℕ) (touches : List GuestTouch) (now : ListNumbers) (sent : Sent) (room rest : List ℕ)
    (left : ℕ) : Type 0 where
  pub rest_is : take left rest ≡ pages_left pages touches (list_of now sent room)
  pub left_is : left ≡ length (pages_left pages touches (list_of now sent room))

pub has_found : (pages : ℕ) (touches : List GuestTouch) (now : ListNumbers) (sent : Sent) (room rest : List ℕ)
    (left : ℕ)
    → ((list : SentList) → IsListOf now sent room list → take left rest ≡ pages_left pages touches list)
    → ((list : SentList) → IsListOf now sent room list → left ≡ length (pages_left pages touches list))
    → HasFound pages touches now sent room rest left
has_found pages touches now sent room rest left rest_is left_is =
    let is = list_of_is now sent room in
    record { rest_is = rest_is (list_of now sent room) is; left_is = left_is (list_of now sent room) is }

-- the end test says the same of the numbers
same_end : (pages : ℕ) (touches : List GuestTouch) (s : HypervisorSettings) (now : ListNumbers) (sent : Sent)
    (room rest : List ℕ) (rows new : List ListRow) (row : ListRow) (total left : ℕ)
    → (before : IsOnWay pages touches s now room rows total)
    → (so : IsSentSo s now.from now.listed sent)
    → HasFound pages touches now sent room rest left → new ≡ rows ++ row ∷ []
    → end_after s (before.coming.from + so.ticks) (length (pages_left pages touches (list_of now sent room)))
    (before.coming.done + 1) ≡ end_after s (now.from + so.ticks) left (length new)
same_end pages touches s now sent room rest rows new row total left before so ran is =
    let count : before.coming.done + 1 ≡ length new = omega (
      arith,
      before.done_is,
      length-map before.lists (row_of pages touches),
      ap (λ (l : List ListRow). length l) before.rows_are,
      ap (λ (l : List ListRow). length l) is,
      length_push rows row,
    ) in
    λ i. end_after s (before.from_is i + so.ticks) (sym ran.left_is i) (count i)

pub goes_on : (pages : ℕ) (touches : List GuestTouch) (s : HypervisorSettings) (now later : ListNumbers) (sent : Sent)
    (room new_room : List ℕ) (rows new : List ListRow) (row : ListRow) (total more : ℕ)
    → IsOnWay pages touches s now room rows total
    → (so : IsSentSo s now.from now.listed sent)
    → HasFound pages touches now sent room new_room later.listed
    → end_after s (now.from + so.ticks) later.listed (length new) ≡ None
    → row ≡ row_with now sent later.listed → new ≡ rows ++ row ∷ [] → more ≡ total + sent.count
    → later.from ≡ sent.to → IsListed pages later.listed new_room → IsOnWay pages touches s later new_room new more
goes_on pages touches s now later sent room new_room rows new row total more before so ran none row_is_it is more_is
    from
    listed =
    let list = list_of now sent room in
    let few : now.listed ≤ length room = omega (arith, before.listed.few, before.listed.room_len) in
    let c = came s before.coming now sent room so before.from_is before.pages_are few in
    let told = same_end pages touches s now sent room new_room rows new row total later.listed before so ran is in
    let rate = slow s now.listed (sent.to - now.from) before.in_range in
    record {
      coming = list_after pages touches before.coming list;
      lists = before.lists ++ list ∷ [];
      follows = follows_more pages touches s before.coming before.lists list so.ticks c (told ∙ none) before.follows;
      in_range = before.in_range;
      listed = listed;
      from_is = sym from;
      pages_are = sym ran.rest_is;
      done_is = omega (arith, before.done_is, length_push before.lists list);
      rows_are = rows_more pages touches before.lists list row rows new (row_is_it
          ∙ row_is pages touches now sent room later.listed few ran.left_is) before.rows_are is;
      total_is = omega (arith, more_is, before.total_is, sent_push before.lists list);
      slow = omega (arith, more_is, before.slow, rate, so.count_is, so.to_is, before.high, from);
      high = omega (arith, so.to_is, from);
    }

-- the plan of these lists, and how large it is
pub record IsWhole (pages : ℕ) (touches : List GuestTouch) (s : HypervisorSettings) (numbers : PlanNumbers) : Type
    0 where
  pub are : AreNumbers pages touches s numbers
  pub small : IsSmall numbers.rows numbers.sent numbers.last

pub ends : (pages : ℕ) (touches : List GuestTouch) (s : HypervisorSettings) (now : ListNumbers) (sent : Sent)
    (room rest last : List ℕ) (rows new : List ListRow) (row : ListRow) (total more left down : ℕ) (end : PlanEnd)
    → IsOnWay pages touches s now room rows total → (so : IsSentSo s now.from now.listed sent)
    → HasFound pages touches now sent room rest left
    → end_after s (now.from + so.ticks) left (length new) ≡ Some end → row ≡ row_with now sent left
    → new ≡ rows ++ row ∷ [] → more ≡ total + sent.count → last ≡ take left rest → down ≡ duration_of left s.rate
    → IsWhole pages touches s
    (record { rows = new; end = end; stop = sent.to; last = last; down = down; sent = more })
ends pages touches s now sent room rest last rows new row total more left down end before so ran some row_is_it is
    more_is last_is down_is =
    let list = list_of now sent room in
    let lists = before.lists ++ list ∷ [] in
    let few : now.listed ≤ length room = omega (arith, before.listed.few, before.listed.room_len) in
    let c = came s before.coming now sent room so before.from_is before.pages_are few in
    let told = same_end pages touches s now sent room rest rows new row total left before so ran is in
    let found = pages_left pages touches list in
    let plan : HypervisorPlan = record {
      lists = lists;
      end = end;
      stop = sent.to;
      last = found;
      down = duration_of (length found) s.rate;
    } in
    let rows_are : new ≡ map (row_of pages touches) lists = rows_more pages touches before.lists list row rows new
    (row_is_it ∙ row_is pages touches now sent room left few ran.left_is) before.rows_are is in
    let rest_is : last ≡ found = last_is ∙ ran.rest_is in
    let all : more ≡ sent_of lists = omega (arith, more_is, before.total_is, sent_push before.lists list) in
    let rate = slow s now.listed (sent.to - now.from) before.in_range in
    record {
      are = record {
        plan = plan;
        is_plan = follows_end pages touches s before.coming before.lists list so.ticks end plan c
            (told ∙ some) refl
            (record { end_is = refl; stop_is = refl; last_are = refl; down_is = refl }) before.follows;
        numbers_are = λ i. record {
          rows = rows_are i;
          end = end;
          stop = sent.to;
          last = rest_is i;
          down = (down_is ∙ ap (λ n. duration_of n s.rate) ran.left_is) i;
          sent = all i;
        };
      };
      small = record {
        some = omega (arith, ap (λ (l : List ListRow). length l) is, length_push rows row);
        few = omega (
          arith,
          more_is,
          before.slow,
          rate,
          so.count_is,
          so.to_is,
          before.high,
          before.in_range.end_high,
        );
        rest = omega (
          arith,
          ap (λ (l : List ℕ). length l) rest_is,
          few_pages (λ page. is_among page (drop sent.count (take now.listed room))
              || is_written touches now.from sent.to page) 0 pages,
          before.listed.list.few,
        );
      };
    }
