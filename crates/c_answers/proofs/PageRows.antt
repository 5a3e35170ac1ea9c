-- The writes to a page, put into room one after the other.
use Rattle.std.proofs.Common.{◌≡◌, ◌≢◌, ℕ, zero, suc, ◌+◌, ◌-◌, ◌<◌, ◌≤◌, Bool, eqb, List, [], ◌∷◌, ◌++◌, length, set}
use Rattle.std.proofs.Common.{get_or, map, take, drop, inl, inr, refl, sym, ap, ◌∙◌, arith}
use Rattle.std.specs.List.{enumerate_from, filter}
use Rattle.std.proofs.lemmas.Bool.{cond-true, cond-false, cases_eq, eq-eqb, ne_eqb}
use Rattle.std.proofs.lemmas.List.{drop-drop, get_or-drop, length-set, take-append-drop}
use Rattle.migration_model.specs.Trace.{GuestTrace, GuestWrite}
use Rattle.migration_model.proofs.Places.{from}
use Rattle.guest_log.specs.Writes.{no_write}
use Rattle.page_versions.specs.Index.{version_after}
use Rattle.open_traces.specs.Index.{next_after}
use Rattle.open_traces.proofs.PageWalks.{IsNext-from, next_is, version_first, version_own}
use Rattle.c_answers.specs.Buffers.{over}
use Rattle.c_answers.specs.Places.{row_at, rows_of}
use Rattle.c_answers.specs.declared.page_writes.PageWrite.{PageWrite}

-- those among writes of which the first has place s
abbrev pub rows_from : ℕ → ℕ → List GuestWrite → List PageWrite
rows_from page s writes = map row_at (filter (λ (at : ℕ × GuestWrite). eqb at.1.page page) (enumerate_from s writes))

rows_hit : (page s : ℕ) (write : GuestWrite) (left : List GuestWrite) → write.page ≡ page
    → rows_from page s (write ∷ left) ≡ row_at (s, write) ∷ rows_from page (s + 1) left
rows_hit page s write left same =
    let rest : List (ℕ × GuestWrite) =
    filter (λ (at : ℕ × GuestWrite). eqb at.1.page page) (enumerate_from (s + 1) left) in
    ap (map row_at) (cond-true (eqb write.page page) ((s, write) ∷ rest) rest (eq-eqb write.page page same))

rows_miss : (page s : ℕ) (write : GuestWrite) (left : List GuestWrite) → write.page ≢ page
    → rows_from page s (write ∷ left) ≡ rows_from page (s + 1) left
rows_miss page s write left apart =
    let rest : List (ℕ × GuestWrite) =
    filter (λ (at : ℕ × GuestWrite). eqb at.1.page page) (enumerate_from (s + 1) left) in
    ap (map row_at) (cond-false (eqb write.page page) ((s, write) ∷ rest) rest (ne_eqb write.page page apart))

-- the first row is that of the first place
rows_next : (page s : ℕ) (writes : List GuestWrite) (n : ℕ)
    → get_or (from (λ (w : GuestWrite). eqb w.page page) s writes) 0 0 ≡ n → n ≢ 0
    → (s ≤ n) × (rows_from page s writes
    ≡ row_at (n, get_or writes (n - s) no_write) ∷ rows_from page (n + 1) (drop (n + 1 - s) writes))
rows_next page s [] n is some = absurd (some (sym is))
rows_next page s (write ∷ left) n is some =
    let q : GuestWrite → Bool = λ w. eqb w.page page in
    elim (cases_eq write.page page) [
      | inl same ↦
          let here : s ≡ n =
          sym (ap (λ (l : List ℕ). get_or l 0 0) (cond-true (eqb write.page page) (s ∷ from q (s + 1) left)
          (from q (s + 1) left) (eq-eqb write.page page same))) ∙ is in
          let none : 0 ≡ n - s = omega (arith, here) in
          let one : 1 ≡ n + 1 - s = omega (arith, here) in (
            omega (arith, here),
            rows_hit page s write left same
                ∙ (λ i. row_at (here i, get_or (write ∷ left) (none i) no_write)
                ∷ rows_from page (here i + 1) (drop (one i) (write ∷ left))),
          )
      | inr apart ↦
          let after : get_or (from q (s + 1) left) 0 0 ≡ n =
          sym (ap (λ (l : List ℕ). get_or l 0 0) (cond-false (eqb write.page page) (s ∷ from q (s + 1) left)
          (from q (s + 1) left) (ne_eqb write.page page apart))) ∙ is in
          let before = rows_next page (s + 1) left n after some in
          let more : suc (n - (s + 1)) ≡ n - s = omega (arith, before.0) in
          let rest : suc (n + 1 - (s + 1)) ≡ n + 1 - s = omega (arith, before.0) in (
            omega (arith, before.0),
            rows_miss page s write left apart ∙ before.1
                ∙ (λ i. row_at (n, get_or (write ∷ left) (more i) no_write)
                ∷ rows_from page (n + 1) (drop (rest i) (write ∷ left))),
          )
    ]

-- and there is none if there is no place
rows_none : (page s : ℕ) (writes : List GuestWrite) → 1 ≤ s
    → get_or (from (λ (w : GuestWrite). eqb w.page page) s writes) 0 0 ≡ 0 → rows_from page s writes ≡ []
rows_none page s [] some is = refl
rows_none page s (write ∷ left) some is =
    let q : GuestWrite → Bool = λ w. eqb w.page page in
    elim (cases_eq write.page page) [
      | inl same ↦
          let here : s ≡ 0 =
          sym (ap (λ (l : List ℕ). get_or l 0 0) (cond-true (eqb write.page page) (s ∷ from q (s + 1) left)
          (from q (s + 1) left) (eq-eqb write.page page same))) ∙ is in
          absurd (omega (arith, here, some))
      | inr apart ↦
          let after : get_or (from q (s + 1) left) 0 0 ≡ 0 =
          sym (ap (λ (l : List ℕ). get_or l 0 0) (cond-false (eqb write.page page) (s ∷ from q (s + 1) left)
          (from q (s + 1) left) (ne_eqb write.page page apart))) ∙ is in
          rows_miss page s write left apart ∙ rows_none page (s + 1) left (omega arith) after
    ]

-- the rows of a page behind a place
abbrev pub rows_behind : GuestTrace → ℕ → ℕ → List PageWrite
rows_behind trace page place = rows_from page (1 + place) (drop place trace.writes)

pub rows_step : (trace : GuestTrace) (page place next : ℕ) → next ≡ next_after trace page place → next ≢ 0
    → rows_behind trace page place
    ≡ row_at (next, get_or trace.writes (next - 1) no_write) ∷ rows_behind trace page next
rows_step trace page place next is some =
    let rest : List GuestWrite = drop place trace.writes in
    let at = rows_next page (1 + place) rest next (sym (is ∙ next_is trace page place)) some in
    let index : place + (next - (1 + place)) ≡ next - 1 = omega (arith, at.0) in
    let left : place + (next + 1 - (1 + place)) ≡ next = omega (arith, at.0) in
    let one : next + 1 ≡ 1 + next = omega arith in
    at.1
    ∙ ap (λ (w : GuestWrite). row_at (next, w) ∷ rows_from page (next + 1) (drop (next + 1 - (1 + place)) rest))
    (get_or-drop place trace.writes (next - (1 + place)) no_write
    ∙ ap (λ (k : ℕ). get_or trace.writes k no_write) index)
    ∙ ap (λ (l : List GuestWrite). row_at (next, get_or trace.writes (next - 1) no_write) ∷ rows_from page (next + 1) l)
    (drop-drop (next + 1 - (1 + place)) place trace.writes ∙ ap (λ (k : ℕ). drop k trace.writes) left)
    ∙ ap (λ (k : ℕ). row_at (next, get_or trace.writes (next - 1) no_write) ∷ rows_from page k (drop next trace.writes))
    one

pub rows_end : (trace : GuestTrace) (page place : ℕ) → 0 ≡ next_after trace page place
    → rows_behind trace page place ≡ []
rows_end trace page place is =
    rows_none page (1 + place) (drop place trace.writes) (omega arith) (sym (is ∙ next_is trace page place))

-- room with these items from an index on
abbrev pub items_at : List PageWrite → ℕ → List PageWrite → List PageWrite
items_at room i items = take i room ++ (items ++ drop (i + length items) room)

items_next : (room : List PageWrite) (i : ℕ) (item : PageWrite) (items : List PageWrite)
    → i + suc (length items) ≤ length room
    → items_at (set room i item) (i + 1) items ≡ items_at room i (item ∷ items)
items_next [] i item items fits = absurd (omega (arith, fits))
items_next (x ∷ room) zero item items fits =
    let one : 0 + 1 + length items ≡ suc (length items) = omega arith in
    let all : 0 + length (item ∷ items) ≡ suc (length items) = omega arith in
    ap (λ (n : ℕ). item ∷ (items ++ drop n (item ∷ room))) one
    ∙ sym (ap (λ (n : ℕ). item ∷ (items ++ drop n (x ∷ room))) all)
items_next (x ∷ room) (suc i) item items fits =
    let next : suc i + 1 ≡ suc (i + 1) = omega arith in
    let one : suc i + 1 + length items ≡ suc (i + 1 + length items) = omega arith in
    let all : suc i + length (item ∷ items) ≡ suc (i + length (item ∷ items)) = omega arith in
    let put : List PageWrite = set room i item in
    (λ j. take (next j) (x ∷ put) ++ (items ++ drop (one j) (x ∷ put)))
    ∙ ap (λ (l : List PageWrite). x ∷ l) (items_next room i item items (omega (arith, fits)))
    ∙ sym (ap (λ (n : ℕ). take (suc i) (x ∷ room) ++ ((item ∷ items) ++ drop n (x ∷ room))) all)

-- A write to the page, or 0, behind which `next` is the next one. As many rows as were counted are up to it.
pub record Reaches (trace : GuestTrace) (page last next count : ℕ) : Type 0 where
  pub within : last ≤ length trace.writes
  pub is_version : last ≡ version_after trace page last
  pub next_is : next ≡ next_after trace page last
  pub counted : count + length (rows_behind trace page last) ≡ length (rows_of trace page)
  pub few : count ≤ last

pub Reaches-none : (trace : GuestTrace) (page last next count : ℕ) → last ≡ 0 → next ≡ next_after trace page last
    → count ≡ 0 → Reaches trace page last next count
Reaches-none trace page last next count none is uncounted = record {
  within = omega (arith, none);
  is_version = version_first trace page last none;
  next_is = is;
  counted = omega (arith, uncounted, ap (λ (n : ℕ). length (rows_behind trace page n)) none);
  few = omega (arith, uncounted);
}

pub Reaches-next : (trace : GuestTrace) (page last next after count : ℕ) → Reaches trace page last next count
    → next ≢ 0 → after ≡ next_after trace page next → Reaches trace page next after (count + 1)
Reaches-next trace page last next after count before some is =
    let at = IsNext-from trace page last next before.next_is some before.within in
    let row = ap length (rows_step trace page last next before.next_is some) in
    record {
      within = at.within;
      is_version = version_own trace page next (omega (arith, at.later)) at.within at.own;
      next_is = is;
      counted = omega (arith, before.counted, row);
      few = omega (arith, before.few, at.later);
    }

-- The first `count` of all rows are in the room, and those behind a write will follow.
pub record Fills (trace : GuestTrace) (page last count : ℕ) (old room : List PageWrite) : Type 0 where
  pub fits : count + length (rows_behind trace page last) ≤ length room
  pub rest : items_at room count (rows_behind trace page last) ≡ over (rows_of trace page) old

pub Fills-start : (trace : GuestTrace) (page last count : ℕ) (old : List PageWrite) → last ≡ 0 → count ≡ 0
    → length (rows_of trace page) ≤ length old → Fills trace page last count old old
Fills-start trace page last count old none uncounted fits =
    let items : List PageWrite = rows_of trace page in
    let all : 0 + length items ≡ length items = omega arith in
    record {
      fits = omega (arith, fits, uncounted, ap (λ (n : ℕ). length (rows_behind trace page n)) none);
      rest = (λ i. items_at old (uncounted i) (rows_behind trace page (none i)))
          ∙ ap (λ (n : ℕ). items ++ drop n old) all;
    }

pub Fills-next : (trace : GuestTrace) (page last next count : ℕ) (old room : List PageWrite) (row : PageWrite)
    → Fills trace page last count old room → next ≡ next_after trace page last → next ≢ 0
    → row ≡ row_at (next, get_or trace.writes (next - 1) no_write)
    → (count < length room) × Fills trace page next (count + 1) old (set room count row)
Fills-next trace page last next count old room row before is some row_is =
    let items : List PageWrite = rows_behind trace page next in
    let here = rows_step trace page last next is some in
    let bound : count + suc (length items) ≤ length room = omega (arith, before.fits, ap length here) in (
      omega (arith, bound),
      record {
        fits = omega (arith, bound, length-set room count row);
        rest = items_next room count row items bound
            ∙ ap (λ (r : PageWrite). items_at room count (r ∷ items)) row_is
            ∙ ap (items_at room count) (sym here) ∙ before.rest;
      },
    )

pub Fills-end : (trace : GuestTrace) (page last count : ℕ) (old room : List PageWrite)
    → Fills trace page last count old room → 0 ≡ next_after trace page last → room ≡ over (rows_of trace page) old
Fills-end trace page last count old room before is =
    let none = rows_end trace page last is in
    let end : count ≡ count + 0 = omega arith in
    sym (take-append-drop count room) ∙ ap (λ (n : ℕ). take count room ++ drop n room) end
    ∙ ap (items_at room count) (sym none) ∙ before.rest
