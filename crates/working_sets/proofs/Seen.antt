-- What is kept of pages, by the places of windows, says what their marks say, by the numbers of windows.
use Rattle.std.proofs.Common.{◌≡◌, ℕ, ◌+◌, ◌*◌, ◌/◌, ◌^◌, ◌<◌, ◌≤◌, Bool, true, false, cond, eqb, not, ◌&&◌, leb, ltb, List}
use Rattle.std.proofs.Common.{get_or, set, length, replicate, refl, sym, ap, ◌∙◌, inl, inr, arith}
use Rattle.std.proofs.lemmas.Bool.{and_right, both_ways, cases_eq, cond_both, eq-eqb, ltb-false, ne_eqb}
use Rattle.std.proofs.lemmas.List.{get_or-replicate, get_or-set_other, get_or-set_same, length-replicate, length-set}
use Rattle.std.proofs.lemmas.Nat.{le-div}
use Rattle.migration_model.specs.Windows.{WindowRow}
use Rattle.migration_model.proofs.Ranges.{filter_range_agree}
use Rattle.std.specs.List.{filter, range_with_len}
use Rattle.working_sets.specs.Counting.{AreOpened, CanAdd, CanCount, CanOpen, Counting, HasRoom, PageMark, SayMarks, SaysMark, counted, counted_by}
use Rattle.working_sets.specs.Counting.{hot_in, hot_of}
use Rattle.working_sets.specs.Counting.{first_window, marked, one_if, passed, seen_at, turned_open, unmarked, unseen}
use Rattle.working_sets.specs.Counting.{window_at}
use Rattle.working_sets.specs.declared.counting.OpenWindow.{OpenWindow}
use Rattle.working_sets.specs.declared.counting.PageSeen.{PageSeen}

-- ---- slots

pub set_here : {X : Type 0} (xs : List X) (page at : ℕ) (x d : X) → page ≡ at → page < length xs
    → get_or (set xs page x) at d ≡ x
set_here xs page at x d same low =
    ap (λ p. get_or (set xs page x) p d) (sym same) ∙ get_or-set_same xs page x d low

pub set_elsewhere : {X : Type 0} (xs : List X) (page at : ℕ) (x d : X) → (page ≡ at → ⊥)
    → get_or (set xs page x) at d ≡ get_or xs at d
set_elsewhere xs page at x d other = get_or-set_other xs page at x d (λ e. other (sym e))

-- ---- before any write

pub say_first : (w pages : ℕ) (at : OpenWindow) (marks : List PageMark) (seen : List PageSeen) → at ≡ first_window w
    → marks ≡ replicate pages unmarked → seen ≡ replicate pages unseen → SayMarks 0 at marks seen
say_first w pages at marks seen at_is marks_are seen_are =
    rw (at_is, marks_are, seen_are) (record {
      number = λ i. 0;
      opened = record {
        some = omega arith;
        here = refl;
        order = λ i j some low high. absurd (omega arith);
        before = inl (refl, λ i some low. absurd (omega arith));
      };
      few = omega arith;
      len = length-replicate pages unseen ∙ sym (length-replicate pages unmarked);
      each = λ page low.
          let within : page < pages = omega (arith, low, length-replicate pages unseen) in
          rw (get_or-replicate pages page unmarked unmarked within, get_or-replicate pages page unseen unseen within)
          (record { windows = refl; high = omega arith; low = omega arith; last = inl (refl, refl) });
    })

-- ---- a window that is opened

-- the numbers of windows, with one more
abbrev number_after : (ℕ → ℕ) → ℕ → ℕ → ℕ → ℕ
number_after number place next i = cond (eqb i place) next (number i)

after_here : (number : ℕ → ℕ) (place next i : ℕ) → i ≡ place → number_after number place next i ≡ next
after_here number place next i same = ap (λ b. cond b next (number i)) (eq-eqb i place same)

after_other : (number : ℕ → ℕ) (place next i : ℕ) → (i ≡ place → ⊥) → number_after number place next i ≡ number i
after_other number place next i other = ap (λ b. cond b next (number i)) (ne_eqb i place other)

-- no window that was opened has a greater number than the open one
numbers_low : (number : ℕ → ℕ) (at : OpenWindow) (i : ℕ) → AreOpened number at → 1 ≤ i → i ≤ at.place
    → number i ≤ at.row.number
numbers_low number at i opened some low = elim (cases_eq i at.place) [
  | inl same ↦ omega (arith, ap number same, opened.here)
  | inr other ↦ omega (arith, opened.order i at.place some (omega (arith, other)) (omega arith), opened.here)
]

opened_next : (w tick : ℕ) (number : ℕ → ℕ) (at : OpenWindow) → AreOpened number at → at.row.number < tick / w
    → AreOpened (number_after number (at.place + 1) (tick / w)) (window_at w tick at)
opened_next w tick number at opened later =
    let next = number_after number (at.place + 1) (tick / w) in
    let here : next (at.place + 1) ≡ tick / w = after_here number (at.place + 1) (tick / w) (at.place + 1) refl in
    let old : (i : ℕ) → i ≤ at.place → next i ≡ number i =
    λ i low. after_other number (at.place + 1) (tick / w) i (λ e. omega arith) in
    record {
      some = omega arith;
      here = here;
      order = λ i j some low high. elim (cases_eq j (at.place + 1)) [
        | inl last ↦
            let under = numbers_low number at i opened some (omega (arith, last)) in
            omega (arith, old i (omega (arith, last)), after_here number (at.place + 1) (tick / w) j last, under, later)
        | inr other ↦
            let order = opened.order i j some low (omega (arith, other)) in
            omega (arith, order, old i (omega (arith, other)), old j (omega (arith, other)))
      ];
      before = elim (cases_eq (tick / w) (at.row.number + 1)) [
        | inl follows ↦
            let is : cond (eqb (tick / w) (at.row.number + 1)) at.place 0 ≡ at.place =
            ap (λ b. cond b at.place 0) (eq-eqb _ _ follows) in
            inr (
              omega (arith, is, opened.some),
              omega (arith, is),
              omega (arith, ap next is, old at.place (omega arith), opened.here, here, follows),
            )
        | inr apart ↦
            let is : cond (eqb (tick / w) (at.row.number + 1)) at.place 0 ≡ 0 =
            ap (λ b. cond b at.place 0) (ne_eqb _ _ apart) in
            inl (
              is,
              λ i some low.
                  let under = numbers_low number at i opened some (omega arith) in
                  omega (arith, old i (omega arith), here, under, later, apart),
            )
      ];
    }

says_next : (place next : ℕ) (number : ℕ → ℕ) (mark : PageMark) (seen : PageSeen) → SaysMark number place mark seen
    → SaysMark (number_after number (place + 1) next) (place + 1) mark seen
says_next place next number mark seen says = record {
  windows = says.windows;
  high = says.high;
  low = omega (arith, says.low);
  last = elim says.last [
    | inl none ↦ inl none
    | inr some ↦ inr (
      some.0,
      some.1 ∙ ap (λ n. n + 1)
          (sym (after_other number (place + 1) next seen.last (λ e. omega (arith, e, says.low)))),
    )
  ];
}

pub say_turned : (index w tick : ℕ) (at : OpenWindow) (marks : List PageMark) (seen : List PageSeen) → 1 ≤ w
    → at.end ≡ (at.row.number + 1) * w → SayMarks index at marks seen
    → SayMarks (index + 1) (turned_open w tick at) marks seen
say_turned index w tick at marks seen some end_is say =
    cond_both (ltb tick at.end) at (window_at w tick at) (λ (x : OpenWindow). SayMarks (index + 1) x marks seen)
    (λ _. record {
      number = say.number;
      opened = say.opened;
      few = omega (arith, say.few);
      len = say.len;
      each = say.each;
    })
    (λ e.
    let past = ltb-false tick at.end e in
    let low : at.row.number + 1 ≤ tick / w =
    le-div (at.row.number + 1) tick w (omega arith) (omega (arith, past, end_is)) in
    record {
      number = number_after say.number (at.place + 1) (tick / w);
      opened = opened_next w tick say.number at say.opened (omega (arith, low));
      few = omega (arith, say.few);
      len = say.len;
      each = λ page within. says_next at.place (tick / w) say.number _ _ (say.each page within);
    })

-- ---- what is counted

-- the three tests of a write answer as by the mark
pub record Agree (at : OpenWindow) (mark : PageMark) (seen : PageSeen) : Type 0 where
  pub here : eqb mark.last (at.row.number + 1) ≡ eqb seen.last at.place
  pub again : (eqb mark.last at.row.number && not (eqb mark.last 0))
      ≡ (eqb seen.last at.before && not (eqb seen.last 0))
  pub none : eqb mark.last 0 ≡ eqb seen.last 0

both_false : (a b c d : Bool) → (a && not b) ≡ false → (c && not d) ≡ false → (a && not b) ≡ (c && not d)
both_false a b c d left right = left ∙ sym right

agree_none : (number : ℕ → ℕ) (at : OpenWindow) (mark : PageMark) (seen : PageSeen) → AreOpened number at
    → seen.last ≡ 0 → mark.last ≡ 0 → Agree at mark seen
agree_none number at mark seen opened seen_none mark_none =
    let seen_is : eqb seen.last 0 ≡ true = eq-eqb _ _ seen_none in
    let mark_is : eqb mark.last 0 ≡ true = eq-eqb _ _ mark_none in
    record {
      here = ne_eqb mark.last (at.row.number + 1) (λ e. omega arith)
          ∙ sym (ne_eqb seen.last at.place (λ e. omega (arith, e, opened.some)));
      again = both_false _ _ _ _ (and_right _ _ (ap not mark_is)) (and_right _ _ (ap not seen_is));
      none = mark_is ∙ sym seen_is;
    }

-- the page is in the previous window exactly if its last place is that of this window
agree_again : (number : ℕ → ℕ) (at : OpenWindow) (mark : PageMark) (seen : PageSeen) → AreOpened number at
    → 1 ≤ seen.last → seen.last ≤ at.place → mark.last ≡ number seen.last + 1
    → eqb mark.last at.row.number ≡ eqb seen.last at.before
agree_again number at mark seen opened some low is = elim opened.before [
  | inl none ↦
      ne_eqb mark.last at.row.number (λ e. elim (cases_eq seen.last at.place) [
        | inl here ↦ omega (arith, e, is, ap number here, opened.here)
        | inr early ↦
            let apart = none.1 seen.last some (omega (arith, early)) in
            omega (arith, e, is, apart, opened.here)
      ])
      ∙ sym (ne_eqb seen.last at.before (λ e. omega (arith, e, none.0)))
  | inr there ↦ elim (cases_eq seen.last at.before) [
    | inl same ↦
        eq-eqb mark.last at.row.number (omega (arith, is, ap number same, there.2, opened.here))
        ∙ sym (eq-eqb _ _ same)
    | inr other ↦
        ne_eqb mark.last at.row.number (λ e. elim (cases_eq seen.last at.place) [
          | inl here ↦ omega (arith, e, is, ap number here, opened.here)
          | inr early ↦
              let order = opened.order seen.last at.before some (omega (arith, early, other, there.1))
              (omega (arith, there.1)) in
              omega (arith, e, is, order, there.2, opened.here)
        ])
        ∙ sym (ne_eqb _ _ other)
  ]
]

agree_some : (number : ℕ → ℕ) (at : OpenWindow) (mark : PageMark) (seen : PageSeen) → AreOpened number at
    → 1 ≤ seen.last → seen.last ≤ at.place → mark.last ≡ number seen.last + 1 → Agree at mark seen
agree_some number at mark seen opened some low is =
    let none : eqb mark.last 0 ≡ eqb seen.last 0 =
    ne_eqb mark.last 0 (λ e. omega arith) ∙ sym (ne_eqb seen.last 0 (λ e. omega arith)) in
    record {
      here = elim (cases_eq seen.last at.place) [
        | inl same ↦ eq-eqb mark.last (at.row.number + 1) (omega (arith, is, ap number same, opened.here))
            ∙ sym (eq-eqb _ _ same)
        | inr other ↦
            let order = opened.order seen.last at.place some (omega (arith, other)) (omega arith) in
            ne_eqb mark.last (at.row.number + 1) (λ e. omega (arith, e, is, order, opened.here))
            ∙ sym (ne_eqb _ _ other)
      ];
      again = λ i. agree_again number at mark seen opened some low is i && not (none i);
      none = none;
    }

agree : (number : ℕ → ℕ) (at : OpenWindow) (mark : PageMark) (seen : PageSeen) → AreOpened number at
    → SaysMark number at.place mark seen → Agree at mark seen
agree number at mark seen opened says = elim says.last [
  | inl none ↦ agree_none number at mark seen opened none.0 none.1
  | inr some ↦ agree_some number at mark seen opened some.0 says.low some.1
]

-- a write counts as by the mark of its page
pub counts_as : (index page : ℕ) (at : OpenWindow) (marks : List PageMark) (seen : List PageSeen) → page < length seen
    → SayMarks index at marks seen
    → counted_by at.row at.place at.before (get_or seen page unseen).last
    ≡ counted at.row (get_or marks page unmarked).last
counts_as index page at marks seen low say =
    let same = agree say.number at _ _ say.opened (say.each page low) in
    let row = at.row in
    λ i. record {
      number = row.number;
      writes = row.writes + 1;
      pages = row.pages + one_if (not (sym same.here i));
      again = row.again + one_if (sym same.again i);
      fresh = row.fresh + one_if (sym same.none i);
    }

-- ---- one more write

one_more_high : (b : Bool) (windows last place : ℕ) → b ≡ eqb last place → windows ≤ last → last ≤ place
    → windows + one_if (not b) ≤ place
one_more_high true windows last place is high low = omega (arith, high, low)
one_more_high false windows last place is high low = elim (cases_eq last place) [
  | inl same ↦ absurd (both_ways (eqb last place) (sym is) (eq-eqb last place same))
  | inr other ↦ omega (arith, high, low, other)
]

says_here : (number : ℕ → ℕ) (at : OpenWindow) (mark : PageMark) (seen : PageSeen) → AreOpened number at
    → SaysMark number at.place mark seen → SaysMark number at.place (marked mark at.row.number) (seen_at seen at.place)
says_here number at mark seen opened says =
    let same = agree number at mark seen opened says in
    record {
      windows = (λ i. says.windows i + one_if (not (sym same.here i)));
      high = one_more_high (eqb seen.last at.place) seen.windows seen.last at.place refl says.high says.low;
      low = omega arith;
      last = inr (opened.some, ap (λ n. n + 1) (sym opened.here));
    }

-- what is kept of one page changes
say_set : (index page : ℕ) (at new : OpenWindow) (marks : List PageMark) (seen : List PageSeen) (mark : PageMark)
    (one : PageSeen) → page < length seen → (say : SayMarks index at marks seen)
    → new.place ≡ at.place → new.before ≡ at.before → new.row.number ≡ at.row.number
    → SaysMark say.number at.place mark one → SayMarks index new (set marks page mark) (set seen page one)
say_set index page at new marks seen mark one low say place before number says =
    let within : page < length marks = omega (arith, low, say.len) in
    record {
      number = say.number;
      opened = record {
        some = omega (arith, say.opened.some, place);
        here = ap say.number place ∙ say.opened.here ∙ sym number;
        order = λ i j some under high. say.opened.order i j some under (omega (arith, high, place));
        before = rw (place, before) say.opened.before;
      };
      few = omega (arith, say.few, place);
      len = length-set seen page one ∙ say.len ∙ sym (length-set marks page mark);
      each = λ q inside. rw place (elim (cases_eq page q) [
        | inl same ↦
            rw (set_here marks page q mark unmarked same within, set_here seen page q one unseen same low) says
        | inr other ↦
            rw (set_elsewhere marks page q mark unmarked other, set_elsewhere seen page q one unseen other)
            (say.each q (omega (arith, inside, length-set seen page one)))
      ]);
    }

pub say_counted : (index page : ℕ) (at new : OpenWindow) (marks : List PageMark) (seen : List PageSeen)
    → page < length seen → SayMarks index at marks seen
    → new.place ≡ at.place → new.before ≡ at.before → new.row.number ≡ at.row.number
    → SayMarks index new (set marks page (marked (get_or marks page unmarked) at.row.number))
    (set seen page (seen_at (get_or seen page unseen) at.place))
say_counted index page at new marks seen low say place before number =
    say_set index page at new marks seen _ _ low say place before number
    (says_here say.number at _ _ say.opened (say.each page low))

pub say_passed : (index page : ℕ) (at : OpenWindow) (marks : List PageMark) (seen : List PageSeen)
    → page < length seen → SayMarks index at marks seen
    → SayMarks index at (set marks page (record (get_or marks page unmarked) { last = at.row.number + 1 }))
    (passed seen page at.place)
say_passed index page at marks seen low say =
    let says = say.each page low in
    say_set index page at at marks seen _ _ low say refl refl refl (record {
      windows = says.windows;
      high = omega (arith, says.high, says.low);
      low = omega arith;
      last = inr (say.opened.some, ap (λ n. n + 1) (sym say.opened.here));
    })

-- ---- room

pub place_low : (index : ℕ) (at : OpenWindow) (marks : List PageMark) (seen : List PageSeen) → index < 2 ^ 20
    → SayMarks index at marks seen → at.place + 1 < 2 ^ 32
place_low index at marks seen few say = omega (arith, few, say.few)

pub can_open : (index w tick page : ℕ) (now : Counting) (at : OpenWindow) (marks : List PageMark) (seen : List PageSeen)
    → CanAdd now tick page → now.window ≡ w → at.row.number ≡ now.row.number → index < 2 ^ 20
    → SayMarks index at marks seen → CanOpen w tick at
can_open index w tick page now at marks seen can w_is number few say = record {
  tick_low = can.tick_low;
  window_some = omega (arith, can.window_some, w_is);
  window_few = omega (arith, can.window_few, w_is);
  number_low = omega (arith, can.row.number, number);
  place_low = place_low index at marks seen few say;
}

pub can_count : (index page : ℕ) (row : WindowRow) (at : OpenWindow) (marks : List PageMark) (seen : List PageSeen)
    → page < length seen → index ≤ 2 ^ 20 → HasRoom row → SayMarks index at marks seen → CanCount row seen page
can_count index page row at marks seen low few room say =
    let says = say.each page low in
    record { page_low = low; room = room; windows_low = omega (arith, few, says.high, says.low, say.few) }

-- ---- the end

-- if as many windows are kept of pages as of their marks, the same pages are hot
pub hot_same : (hot : ℕ) (a : List PageSeen) (b : List PageMark) → length a ≡ length b
    → ((page : ℕ) → page < length a → (get_or a page unseen).windows ≡ (get_or b page unmarked).windows)
    → hot_in a hot ≡ hot_of b hot
hot_same hot a b len same =
    filter_range_agree (λ page. leb hot (get_or b page unmarked).windows)
    (λ page. leb hot (get_or a page unseen).windows) 0 (length a)
    (λ page low high. ap (λ n. leb hot n) (same page (omega arith)))
    ∙ ap (λ n. filter (λ page. leb hot (get_or b page unmarked).windows) (range_with_len 0 n)) len
