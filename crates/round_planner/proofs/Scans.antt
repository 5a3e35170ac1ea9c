-- A walk over touches: what its marks say, and how it goes on.
use Rattle.std.proofs.Common.{◌≡◌, ℕ, ◌+◌, ◌-◌, ◌*◌, ◌/◌, ◌<◌, ◌≤◌, Bool, true, false, ◌&&◌, ◌||◌, eqb, ltb, leb}
use Rattle.std.proofs.Common.{List, [], ◌∷◌, ◌++◌, length, get_or, take, drop, replicate, refl, sym, ap, ◌∙◌, inl, inr}
use Rattle.std.proofs.Common.{arith}
use Rattle.std.specs.List.{All, AllByRecursion, AllWithin, list_any, filter, range_with_len}
use Rattle.std.specs.List.Sorted.{IsPartitionPoint}
use Rattle.std.proofs.lemmas.Bool.{cases_eq, eq-eqb, ne_eqb, ltb-true, lt-ltb, le-ltb, lt-leb}
use Rattle.std.proofs.lemmas.Bool.{le-leb, and_from, and_left, and_right}
use Rattle.std.proofs.lemmas.List.{append-nil, length-replicate, take_more}
use Rattle.std.proofs.lemmas.List.{take-append-drop, get_or-take, get_or-drop, length-take, length-drop, get_or_default}
use Rattle.std.proofs.lemmas.List.Elements.{recursion_from_All, filter-append}
use Rattle.std.proofs.lemmas.List.Folds.{list_any-append, list_any_none}
use Rattle.std.proofs.Math.Bool.{or-false, and-true, or-true}
use Rattle.migration_model.specs.Touches.{GuestTouch, no_touch, is_written, pages_written, AreTouches}
use Rattle.migration_model.proofs.Ranges.{filter_range_agree}
use Rattle.page_bitmap.specs.Pages.{in_words, one_page, union, SamePages}
use Rattle.page_bitmap.specs.Listing.{pages_of, word_count}
use Rattle.round_planner.specs.Scanning.{is_met, AreMet, IsScan, IsScanWithin, IsNextBefore}
use Rattle.page_bitmap.proofs.Listed.{few_pages}
use Rattle.round_planner.proofs.Plans.{scan_in_round}
use Rattle.page_bitmap.proofs.Listed.{none_kept, range_split}
use Rattle.page_bitmap.proofs.Bits.{no_words}

take_within : (P : GuestTouch → Type 0) (touches : List GuestTouch) (n : ℕ) → AllWithin P touches 0 n
    → All P (take n touches)
take_within P touches n all k d low =
    let inside : k < n = omega (arith, length-take n touches) in
    rw (get_or-take n touches k d inside) (all k d (omega arith) inside)

drop_within : (P : GuestTouch → Type 0) (touches : List GuestTouch) (n : ℕ) → AllWithin P touches n (length touches)
    → All P (drop n touches)
drop_within P touches n all k d low = rw (get_or-drop n touches k d)
    (all (n + k) d (omega arith) (omega (arith, length-drop n touches)))

list_any_agree : (p q : GuestTouch → Bool) (xs : List GuestTouch) → AllByRecursion (λ x. p x ≡ q x) xs
    → list_any p xs ≡ list_any q xs
list_any_agree p q [] same = refl
list_any_agree p q (x ∷ xs) same = λ i. same.0 i || list_any_agree p q xs same.1 i

-- ---- where the walk begins

-- no touch before a tick is met from that tick on
pub none_met : (touches : List GuestTouch) (tick n page : ℕ)
    → AllWithin (λ (t : GuestTouch). ltb t.tick tick ≡ true) touches 0 n → is_met touches tick n page ≡ false
none_met touches tick n page early =
    list_any_none (λ (t : GuestTouch). eqb t.page page && leb tick t.tick) (take n touches)
    (take_within (λ t. (eqb t.page page && leb tick t.tick) ≡ false) touches n
    (λ k d low high. and_right _ _ (lt-leb tick (get_or touches k d).tick (ltb-true _ _ (early k d low high)))))

-- with no page marked, the walk has just begun
pub begun : (pages : ℕ) (touches : List GuestTouch) (tick n : ℕ) (marks : List ℕ) → n ≤ length touches
    → IsPartitionPoint (λ (t : GuestTouch). ltb t.tick tick ≡ true) (λ t. ltb t.tick tick ≡ false) touches n
    → marks ≡ replicate (word_count pages) 0 → IsScan pages touches tick tick n marks
begun pages touches tick n marks bound point is = record {
  order = omega arith;
  bound = bound;
  point = point;
  met = record {
    len = ap (λ (m : List ℕ). length m) is ∙ length-replicate (word_count pages) 0;
    marked = λ page low. ap (λ (m : List ℕ). in_words m page) is ∙ no_words (word_count pages) page
        ∙ sym (none_met touches tick n page point.0);
    none = λ page high. ap (λ (m : List ℕ). in_words m page) is ∙ no_words (word_count pages) page;
  };
}

pub begun_again : (pages : ℕ) (touches : List GuestTouch) (from tick n : ℕ) (marks fresh : List ℕ)
    → fresh ≡ replicate (length marks) 0
    → IsScan pages touches from tick n marks → IsScan pages touches tick tick n fresh
begun_again pages touches from tick n marks fresh is scan =
    begun pages touches tick n fresh scan.bound scan.point (is ∙ ap (λ (k : ℕ). replicate k 0) scan.met.len)

-- ---- what the marks say

pub written_at : (touches : List GuestTouch) (from tick n page : ℕ)
    → IsPartitionPoint (λ (t : GuestTouch). ltb t.tick tick ≡ true) (λ t. ltb t.tick tick ≡ false) touches n
    → is_written touches from tick page ≡ is_met touches from n page
written_at touches from tick n page point =
    let p : GuestTouch → Bool = λ t. eqb t.page page && (leb from t.tick && ltb t.tick tick) in
    let q : GuestTouch → Bool = λ t. eqb t.page page && leb from t.tick in
    let behind : list_any p (drop n touches) ≡ false =
    list_any_none p (drop n touches) (drop_within (λ t. p t ≡ false) touches n
    (λ k d low high. and_right _ _ (and_right _ _ (point.1 k d low high)))) in
    let same : AllByRecursion (λ t. p t ≡ q t) (take n touches) =
    recursion_from_All (λ t. p t ≡ q t) (take n touches) (take_within (λ t. p t ≡ q t) touches n (λ k d low high.
    let t = get_or touches k d in
    ap (λ b. eqb t.page page && (leb from t.tick && b)) (point.0 k d low high)
    ∙ ap (λ b. eqb t.page page && b) (and-true (leb from t.tick)))) in
    ap (list_any p) (sym (take-append-drop n touches))
    ∙ list_any-append p (take n touches) (drop n touches)
    ∙ ap (λ b. list_any p (take n touches) || b) behind
    ∙ or-false (list_any p (take n touches))
    ∙ list_any_agree p q (take n touches) same

pub written_met : (pages : ℕ) (touches : List GuestTouch) (from tick n page : ℕ) (marks : List ℕ)
    → IsScan pages touches from tick n marks
    → is_written touches from tick page ≡ is_met touches from n page
written_met pages touches from tick n page marks scan = written_at touches from tick n page scan.point

pub mark_is : (pages : ℕ) (touches : List GuestTouch) (from tick n page : ℕ) (marks : List ℕ)
    → IsScan pages touches from tick n marks → page < pages
    → in_words marks page ≡ is_written touches from tick page
mark_is pages touches from tick n page marks scan low = scan.met.marked page low
    ∙ sym (written_met pages touches from tick n page marks scan)

-- the pages that are marked are those written
pub marked_pages : (pages : ℕ) (touches : List GuestTouch) (from tick n : ℕ) (marks : List ℕ)
    → IsScan pages touches from tick n marks
    → pages_of marks ≡ pages_written pages touches from tick
marked_pages pages touches from tick n marks scan =
    let all = length marks * 64 in
    let more : pages ≤ all = omega (arith, scan.met.len) in
    let rest = filter (in_words marks) (range_with_len pages (all - pages)) in
    let none : rest ≡ [] = none_kept (in_words marks) pages (all - pages) (λ page low high. scan.met.none page low) in
    ap (filter (in_words marks)) (range_split 0 pages pages (all - pages) all (omega (arith, more)) (omega arith))
    ∙ filter-append (in_words marks) (range_with_len 0 pages) (range_with_len pages (all - pages))
    ∙ ap (λ (l : List ℕ). filter (in_words marks) (range_with_len 0 pages) ++ l) none
    ∙ append-nil (filter (in_words marks) (range_with_len 0 pages))
    ∙ filter_range_agree (is_written touches from tick) (in_words marks) 0 pages
    (λ page low high. mark_is pages touches from tick n page marks scan (omega arith))

-- no more pages are marked than the guest has
pub marked_few : (pages : ℕ) (touches : List GuestTouch) (from tick n : ℕ) (marks : List ℕ)
    → IsScan pages touches from tick n marks → length (pages_of marks) ≤ pages
marked_few pages touches from tick n marks scan =
    omega (
      arith,
      ap (λ (l : List ℕ). length l) (marked_pages pages touches from tick n marks scan),
      few_pages (is_written touches from tick) 0 pages,
    )

-- ---- how the walk goes on

-- on its way to a tick
pub record IsWalking (pages : ℕ) (touches : List GuestTouch) (from tick n : ℕ) (marks : List ℕ) : Type 0 where
  pub order : from ≤ tick
  pub early : AllWithin (λ t. ltb t.tick tick ≡ true) touches 0 n
  pub late : AllWithin (λ t. from ≤ t.tick) touches n (length touches)
  pub met : AreMet pages touches from n marks

pub met_more : (touches : List GuestTouch) (from n page : ℕ) → n < length touches
    → is_met touches from (n + 1) page ≡ (is_met touches from n page
    || (eqb (get_or touches n no_touch).page page && leb from (get_or touches n no_touch).tick))
met_more touches from n page low =
    let q : GuestTouch → Bool = λ t. eqb t.page page && leb from t.tick in
    let t = get_or touches n no_touch in
    ap (list_any q) (take_more touches n no_touch low) ∙ list_any-append q (take n touches) (t ∷ [])
    ∙ ap (λ b. is_met touches from n page || b) (or-false (q t))

pub walk_on : (pages : ℕ) (touches : List GuestTouch) (from tick n page : ℕ) (marks new : List ℕ)
    → IsNextBefore pages touches n tick page
    → length new ≡ length marks → SamePages (in_words new) (union (in_words marks) (one_page page))
    → IsWalking pages touches from tick n marks → IsWalking pages touches from tick (n + 1) new
walk_on pages touches from tick n page marks new next same_len same walk =
    let t = get_or touches n no_touch in
    let late : from ≤ t.tick = walk.late n no_touch (omega arith) next.low in
    record {
      order = walk.order;
      early = λ k d low high. elim (cases_eq k n) [
        | inl same ↦
            let here : get_or touches k d ≡ t = ap (λ (j : ℕ). get_or touches j d) same
            ∙ get_or_default touches n d no_touch next.low in
            ap (λ (x : GuestTouch). ltb x.tick tick) here ∙ lt-ltb t.tick tick next.early
        | inr other ↦ walk.early k d low (omega (arith, other))
      ];
      late = λ k d low high. walk.late k d (omega arith) high;
      met = record {
        len = same_len ∙ walk.met.len;
        marked = λ p low. same p ∙ elim (cases_eq p page) [
          | inl e ↦
              let is_it : t.page ≡ p = omega (arith, next.page_is, e) in
              let hit : (eqb t.page p && leb from t.tick) ≡ true =
              and_from _ _ (eq-eqb t.page p is_it) (le-leb from t.tick late) in
              ap (λ b. in_words marks p || b) (eq-eqb p page e) ∙ or-true _
              ∙ sym (met_more touches from n p next.low ∙ ap (λ b. is_met touches from n p || b) hit ∙ or-true _)
          | inr other ↦
              let is_not : t.page ≡ p → ⊥ = λ e. other (omega (arith, e, next.page_is)) in
              let miss : (eqb t.page p && leb from t.tick) ≡ false = and_left _ _ (ne_eqb t.page p is_not) in
              ap (λ b. in_words marks p || b) (ne_eqb p page other) ∙ or-false _ ∙ walk.met.marked p low
              ∙ sym (met_more touches from n p next.low ∙ ap (λ b. is_met touches from n p || b) miss ∙ or-false _)
        ];
        none = λ p high. same p ∙ ap (λ b. in_words marks p || b)
            (ne_eqb p page (λ e. omega (arith, e, high, next.page_low))) ∙ or-false _ ∙ walk.met.none p high;
      };
    }

pub walk_ends : (pages : ℕ) (touches : List GuestTouch) (from tick n : ℕ) (marks : List ℕ) → AreTouches pages touches
    → n ≤ length touches
    → (n < length touches → tick ≤ (get_or touches n no_touch).tick) → IsWalking pages touches from tick n marks
    → IsScan pages touches from tick n marks
walk_ends pages touches from tick n marks fits bound none walk = record {
  order = walk.order;
  bound = bound;
  point = (
    walk.early,
    (λ k d low high.
        let first : tick ≤ (get_or touches n no_touch).tick = none (omega arith) in
        let rises : (get_or touches n no_touch).tick ≤ (get_or touches k no_touch).tick =
        fits.in_order n k no_touch low high in
        ap (λ (x : GuestTouch). ltb x.tick tick) (get_or_default touches k d no_touch high)
        ∙ le-ltb (get_or touches k no_touch).tick tick (omega arith)),
  );
  met = walk.met;
}

-- on to the end of a round, from no later than where its last page was looked at
pub walked_on : (pages : ℕ) (touches : List GuestTouch) (from rate count ticks to next later : ℕ) (marks new : List ℕ)
    → to ≡ from + ticks → 1_000 * count ≤ ticks * rate
    → IsScanWithin pages touches from (from + 1_000 * count / rate) next marks
    → ((start upto : ℕ) → upto ≤ to → IsScan pages touches start upto next marks
    → IsScan pages touches start to later new) → IsScan pages touches from to later new
walked_on pages touches from rate count ticks to next later marks new is enough within walk =
    walk from within.tick (omega (arith, within.high, scan_in_round from rate count ticks enough, is)) within.scan
