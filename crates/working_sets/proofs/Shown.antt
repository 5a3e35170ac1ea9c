-- The state of a pass shows the writes so far.
use Rattle.std.proofs.Common.{◌≡◌, ℕ, ◌+◌, ◌*◌, ◌/◌, ◌<◌, ◌≤◌, Bool, true, false, cond, ltb, leb, List, [], ◌∷◌, ◌++◌}
use Rattle.std.proofs.Common.{length, get_or, set, map, refl, sym, ap, ◌∙◌, inl, inr, arith}
use Rattle.std.specs.List.{All, count_by, filter, range_with_len}
use Rattle.std.proofs.Math.Nat.{mul-le-mul_right, div-mul-le_self, lt-div-mul-add}
use Rattle.std.proofs.lemmas.Bool.{cases_eq, cases_order, cond_both, ltb-false, ltb-true}
use Rattle.std.proofs.lemmas.Nat.{le-div, div_below}
use Rattle.std.proofs.lemmas.List.{append-nil, get_or-set_same, get_or-set_other, get_or-replicate, length-set}
use Rattle.std.proofs.lemmas.List.{length-replicate}
use Rattle.std.proofs.lemmas.List.Elements.{All-nil, All-push, All-weaker}
use Rattle.std.proofs.lemmas.List.FromFn.{filter_of_map_range_with_len_more}
use Rattle.migration_model.specs.Trace.{last_by}
use Rattle.migration_model.specs.Touches.{GuestTouch}
use Rattle.migration_model.specs.Windows.{WindowRow, row_of, rows_of, windows_with}
use Rattle.working_sets.specs.Counting.{Counting, PageMark, blank, unmarked, one_if, with_row, counted, marked, mark_of}
use Rattle.working_sets.specs.Counting.{turned, written, started}
use Rattle.working_sets.proofs.Counts.{count_agree, count_change, count_extend, map_agree, filter_extend}
use Rattle.working_sets.proofs.Written.{hits, hits_push_other, hits_push_out, hits_push_in, hits_past}
use Rattle.working_sets.proofs.Last.{in_window, in_window_from, above_window, below_window, IsLast, IsLast_none}
use Rattle.working_sets.proofs.Last.{IsLast-push, IsLast_other}
use Rattle.working_sets.proofs.Rows.{row_of-push, row_of_past, row_of_behind, counts_at}

-- the test that a row has a write
abbrev pub has_write : WindowRow → Bool
has_write row = leb 1 row.writes

-- the rows with a write of the first n windows
abbrev pub rows_below : List GuestTouch → ℕ → ℕ → ℕ → List WindowRow
rows_below writes pages w n = filter has_write (map (row_of writes pages w) (range_with_len 0 n))

-- in how many of the first n windows a page is
abbrev pub windows_below : List GuestTouch → ℕ → ℕ → ℕ → ℕ
windows_below writes w page n = count_by (λ i. hits (in_window w i) page writes) (range_with_len 0 n)

-- what a page's mark says, the window of this number being open
pub record IsMark (w : ℕ) (writes : List GuestTouch) (number page : ℕ) (mark : PageMark) : Type 0 where
  pub last : IsLast w writes page mark.last
  pub low : mark.last ≤ number + 1
  pub windows : mark.windows ≡ windows_below writes w page (number + 1)

pub record Shows (pages : ℕ) (done : List GuestTouch) (s : Counting) : Type 0 where
  pub some : 1 ≤ s.window
  pub end_is : s.end ≡ (s.row.number + 1) * s.window
  pub below : All (λ x. x.tick < (s.row.number + 1) * s.window) done
  pub row_is : s.row ≡ row_of done pages s.window s.row.number
  pub rows_are : s.rows ≡ rows_below done pages s.window s.row.number
  pub len : length s.marks ≡ pages
  pub each : (page : ℕ) (d : PageMark) → page < pages → IsMark s.window done s.row.number page (get_or s.marks page d)

-- ---- the start

pub Shows_start : (w pages : ℕ) → 1 ≤ w → Shows pages [] (started w pages)
Shows_start w pages some = record {
  some = some;
  end_is = omega arith;
  below = All-nil (λ (x : GuestTouch). x.tick < (0 + 1) * w);
  row_is = sym (row_of_behind w pages 0 [] (All-nil (λ (x : GuestTouch). x.tick < 0 * w)));
  rows_are = refl;
  len = length-replicate pages unmarked;
  each = λ page d low. rw (get_or-replicate pages page unmarked d low)
      (record { last = IsLast_none w page; low = omega arith; windows = refl });
}

-- ---- a window closes

-- windows after all writes have no write, and no page
behind : (w n i : ℕ) (writes : List GuestTouch) → All (λ x. x.tick < (n + 1) * w) writes → n + 1 ≤ i
    → All (λ x. x.tick < i * w) writes
behind w n i writes below low =
    let mono : (n + 1) * w ≤ i * w = mul-le-mul_right w low in
    All-weaker (λ x. x.tick < (n + 1) * w) (λ x. x.tick < i * w) (λ x early. omega arith) writes below

no_page_behind : (w n i page : ℕ) (writes : List GuestTouch) → All (λ x. x.tick < (n + 1) * w) writes → n + 1 ≤ i
    → hits (in_window w i) page writes ≡ false
no_page_behind w n i page writes below low =
    hits_past (in_window w i) page writes
    (All-weaker (λ x. x.tick < i * w) (λ x. in_window w i x.tick ≡ false) (λ x early. below_window w i x.tick early)
    writes (behind w n i writes below low))

cond-append : {X : Type 0} (b : Bool) (xs ys : List X) → cond b (xs ++ ys) xs ≡ xs ++ cond b ys []
cond-append true xs ys = refl
cond-append false xs ys = sym (append-nil xs)

-- the rows up to the open window, with it
pub rows_closed : (w pages n m : ℕ) (writes : List GuestTouch) (rows : List WindowRow) (row : WindowRow)
    → All (λ x. x.tick < (n + 1) * w) writes → n + 1 ≤ m
    → row ≡ row_of writes pages w n → rows ≡ rows_below writes pages w n
    → with_row rows row ≡ rows_below writes pages w m
rows_closed w pages n m writes rows row below low row_is rows_are =
    let none : (i : ℕ) → n + 1 ≤ i → has_write (row_of writes pages w i) ≡ false =
    λ i high. ap has_write (row_of_behind w pages i writes (behind w n i writes below high)) in
    let here = row_of writes pages w n in
    let before = rows_below writes pages w n in
    let more : rows_below writes pages w (n + 1) ≡ before ++ cond (has_write here) (here ∷ []) [] =
    filter_of_map_range_with_len_more has_write (row_of writes pages w) 0 n n (omega arith) in
    (λ i. with_row (rows_are i) (row_is i))
    ∙ cond-append (has_write here) before (here ∷ [])
    ∙ sym more
    ∙ sym (filter_extend has_write (row_of writes pages w) (n + 1) m low none)

-- the state for a tick after the open window
late : Counting → ℕ → Counting
late s tick = record s {
  end = (tick / s.window + 1) * s.window;
  rows = with_row s.rows s.row;
  row = blank (tick / s.window);
}

Shows_late : (pages tick : ℕ) (done : List GuestTouch) (s : Counting) → Shows pages done s → s.end ≤ tick
    → Shows pages done (late s tick)
unfolding late
Shows_late pages tick done s shows past =
    let w = s.window in
    let n = s.row.number in
    let j = tick / w in
    let some = shows.some in
    let high : (n + 1) * w ≤ tick = omega (arith, shows.end_is) in
    let low : n + 1 ≤ j = le-div (n + 1) tick w (omega arith) high in
    let mono : (n + 1) * w ≤ (j + 1) * w = mul-le-mul_right w (omega arith) in
    record {
      some = some;
      end_is = refl;
      below = All-weaker (λ x. x.tick < (n + 1) * w) (λ x. x.tick < (j + 1) * w) (λ x early. omega arith) done
          shows.below;
      row_is = sym (row_of_behind w pages j done (behind w n j done shows.below low));
      rows_are = rows_closed w pages n j done s.rows s.row shows.below low shows.row_is shows.rows_are;
      len = shows.len;
      each = λ page d within.
          let is = shows.each page d within in
          record {
            last = is.last;
            low = omega (arith, is.low);
            windows = is.windows
                ∙ sym (count_extend (λ i. hits (in_window w i) page done) 0 (n + 1) (j + 1) (omega arith)
                (λ i above. no_page_behind w n i page done shows.below (omega arith)));
          };
    }

pub Shows_turned : (pages tick : ℕ) (done : List GuestTouch) (s : Counting) → Shows pages done s
    → Shows pages done (turned s tick)
unfolding late
Shows_turned pages tick done s shows =
    cond_both (ltb tick s.end) s (late s tick) (λ x. Shows pages done x) (λ _. shows)
    (λ e. Shows_late pages tick done s shows (ltb-false _ _ e))

-- the open window holds this tick
pub record Holds (s : Counting) (tick : ℕ) : Type 0 where
  pub low : s.row.number * s.window ≤ tick
  pub high : tick < (s.row.number + 1) * s.window

pub quotient_low : (t w : ℕ) → t / w * w ≤ t
quotient_low t w = div-mul-le_self t w

pub quotient_high : (t w : ℕ) → 1 ≤ w → t < (t / w + 1) * w
quotient_high t w some = let high : t < t / w * w + w = lt-div-mul-add some in omega arith

pub quotient_is : (t w n : ℕ) → 1 ≤ w → n * w ≤ t → t < (n + 1) * w → n ≡ t / w
quotient_is t w n some low high =
    let at_least : n ≤ t / w = le-div n t w (omega arith) low in
    let under : t / w < n + 1 = div_below t w (n + 1) (omega arith) high in
    omega arith

pub Holds_turned : (pages tick : ℕ) (done : List GuestTouch) (s : Counting) → Shows pages done s
    → s.row.number * s.window ≤ tick → Holds (turned s tick) tick
unfolding late
Holds_turned pages tick done s shows low =
    cond_both (ltb tick s.end) s (late s tick) (λ x. Holds x tick)
    (λ e. let early = ltb-true _ _ e in record { low = low; high = omega (arith, shows.end_is) })
    (λ e. record { low = quotient_low tick s.window; high = quotient_high tick s.window shows.some })

-- ---- one more write

IsMark_here : (w number page : ℕ) (done : List GuestTouch) (write : GuestTouch) (mark : PageMark)
    → All (λ x. x.tick < (number + 1) * w) done
    → number * w ≤ write.tick → write.tick < (number + 1) * w → write.page ≡ page → IsMark w done number page mark
    → IsMark w (done ++ write ∷ []) number page (marked mark number)
IsMark_here w number page done write mark below low high same is =
    let more = done ++ write ∷ [] in
    let inside = in_window_from w number write.tick low high in
    let adds = counts_at w number page mark.last done is.last is.low in
    let others : (i : ℕ) → (i ≡ number → ⊥) → hits (in_window w i) page more ≡ hits (in_window w i) page done =
    λ i apart. hits_push_out (in_window w i) page done write (elim (cases_order i number) [
      | inl e ↦ absurd (apart e)
      | inr order ↦ elim order [
        | inl under ↦ let mono : (i + 1) * w ≤ number * w = mul-le-mul_right w (omega arith) in above_window w i
            write.tick (omega arith)
        | inr over ↦ let mono : (number + 1) * w ≤ i * w = mul-le-mul_right w (omega arith) in below_window w i
            write.tick (omega arith)
      ]
    ]) in
    let change = count_change (λ i. hits (in_window w i) page done) (λ i. hits (in_window w i) page more) 0 (number + 1)
    number (omega arith) (omega arith) others in
    let now : one_if (hits (in_window w number) page more) ≡ 1 =
    ap one_if (hits_push_in (in_window w number) page done write same inside) in
    record {
      last = IsLast-push w number page mark.last done write below inside same;
      low = omega arith;
      windows = omega (arith, change, now, adds.pages, is.windows);
    }

IsMark_other : (w number page : ℕ) (done : List GuestTouch) (write : GuestTouch) (mark : PageMark)
    → (write.page ≡ page → ⊥) → IsMark w done number page mark
    → IsMark w (done ++ write ∷ []) number page mark
IsMark_other w number page done write mark other is = record {
  last = IsLast_other w page mark.last done write is.last other;
  low = is.low;
  windows = is.windows ∙ sym (count_agree (λ i. hits (in_window w i) page done)
      (λ i. hits (in_window w i) page (done ++ write ∷ [])) 0 (number + 1)
      (λ i low high. hits_push_other (in_window w i) page done write other));
}

pub Shows-push : (pages : ℕ) (done : List GuestTouch) (write : GuestTouch) (s : Counting) → Shows pages done s
    → Holds s write.tick → write.page < pages
    → Shows pages (done ++ write ∷ []) (written s write.page)
Shows-push pages done write s shows holds within =
    let w = s.window in
    let n = s.row.number in
    let more = done ++ write ∷ [] in
    let mark = mark_of s write.page in
    let inside = in_window_from w n write.tick holds.low holds.high in
    let own = shows.each write.page unmarked within in
    let room : write.page < length s.marks = omega (arith, shows.len) in
    record {
      some = shows.some;
      end_is = shows.end_is;
      below = All-push (λ x. x.tick < (n + 1) * w) done write shows.below holds.high;
      row_is = ap (λ r. counted r mark.last) shows.row_is ∙ sym
          (row_of-push w pages n mark.last done write inside within own.last own.low);
      rows_are = shows.rows_are
          ∙ ap (λ (l : List WindowRow). filter has_write l)
          (sym (map_agree (row_of done pages w) (row_of more pages w) 0 n
          (λ i low high. let mono : (i + 1) * w ≤ n * w = mul-le-mul_right w (omega arith) in row_of_past w pages i done
          write (omega (arith, holds.low)))));
      len = length-set s.marks write.page (marked mark n) ∙ shows.len;
      each = λ page d low. elim (cases_eq write.page page) [
        | inl same ↦
            let here : get_or (set s.marks write.page (marked mark n)) page d ≡ marked mark n =
            ap (λ p. get_or (set s.marks write.page (marked mark n)) p d) (sym same)
            ∙ get_or-set_same s.marks write.page (marked mark n) d room in
            rw here (IsMark_here w n page done write mark shows.below holds.low holds.high same (rw (← same) own))
        | inr other ↦
            rw (get_or-set_other s.marks write.page page (marked mark n) d (λ e. other (sym e)))
            (IsMark_other w n page done write (get_or s.marks page d) other (shows.each page d low))
      ];
    }

-- ---- the end

pub rows_of_shown : (pages : ℕ) (writes : List GuestTouch) (s : Counting) → Shows pages writes s
    → s.row.number ≡ last_by (λ t. t.tick) writes / s.window
    → with_row s.rows s.row ≡ rows_of writes pages s.window
unfolding rows_of
rows_of_shown pages writes s shows at =
    rows_closed s.window pages s.row.number (s.row.number + 1) writes s.rows s.row shows.below (omega arith)
    shows.row_is shows.rows_are
    ∙ ap (λ n. rows_below writes pages s.window (n + 1)) at

pub windows_with_shown : (pages : ℕ) (writes : List GuestTouch) (s : Counting) → Shows pages writes s
    → s.row.number ≡ last_by (λ t. t.tick) writes / s.window
    → (page : ℕ) → page < pages → (mark_of s page).windows ≡ windows_with writes s.window page
unfolding windows_with
windows_with_shown pages writes s shows at page low =
    (shows.each page unmarked low).windows ∙ ap (λ n. windows_below writes s.window page (n + 1)) at
