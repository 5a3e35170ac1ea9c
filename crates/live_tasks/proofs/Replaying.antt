-- What a replayer has stored so far.
use Rattle.std.proofs.Common.{◌≡◌, ℕ, ◌+◌, ◌-◌, ◌<◌, ◌≤◌, ◌⊎◌, inl, inr, true, false, eqb, ltb, List, ◌∷◌, length}
use Rattle.std.proofs.Common.{get_or, refl, sym, ap, subst, ◌∙◌, arith}
use Rattle.std.specs.Prelude.{Option, Some, None, slice_get, slice_index, unwrap_or}
use Rattle.std.specs.List.Sorted.{IsPartitionPoint}
use Rattle.std.proofs.lemmas.Bool.{cases_eq, cond-true, cond-false, eq-eqb, ne_eqb, ltb-true, lt-ltb, cases_lt}
use Rattle.std.proofs.lemmas.Option.{slice_get_within, get_or_from_slice_get, slice_get-get_or}
use Rattle.std.proofs.lemmas.List.{get_or-map, length-map}
use Rattle.std.proofs.lemmas.Bool.{false≢true}
use Rattle.migration_model.specs.Trace.{GuestTrace, GuestWrite}
use Rattle.migration_model.specs.Touches.{GuestTouch, touch_of, touches_of, no_touch}
use Rattle.guest_log.specs.Writes.{no_write}
use Rattle.dirty_core.specs.Start.{Start}
use Rattle.dirty_core.specs.Runs.{IsVisited, place_after}
use Rattle.dirty_core.specs.Machine.{last_visit}
use Rattle.dirty_words.specs.Facts.{GuestFacts, OwnsPage, last_place, first_guest, after_store, after_mark}
use Rattle.migration_model.specs.Versions.{version_before}
use Rattle.migration_model.proofs.Placed.{version_is_place}
use Rattle.live_tasks.specs.Replays.{HasReplayed, OpensAt, IsStoredIfOwn}

-- the place of a write to the page: after the first `first` writes, and among the first `end`
pub record IsAmong (trace : GuestTrace) (page first end place : ℕ) : Type 0 where
  pub write : GuestWrite
  pub there : slice_get trace.writes (place - 1) ≡ Some write
  pub page_is : write.page ≡ page
  pub low : first < place
  pub high : place ≤ end

pub record IsReplaying (trace : GuestTrace) (start : Start) (number first now : ℕ) (facts : GuestFacts) : Type 0 where
  pub start_is : facts.start ≡ start
  pub number_is : facts.number ≡ number
  pub pending : facts.pending ≡ None
  pub stored : (page place : ℕ) → IsVisited facts.stores page place
      → OwnsPage facts page × IsAmong trace page first now place
  pub all : (page place : ℕ) → OwnsPage facts page → IsAmong trace page first now place
      → IsVisited facts.stores page place
  pub low : (page : ℕ) → OwnsPage facts page → last_place facts page ≤ now

more : (trace : GuestTrace) (page first now place : ℕ) → IsAmong trace page first now place
    → IsAmong trace page first (now + 1) place
more trace page first now place is = record {
  write = is.write;
  there = is.there;
  page_is = is.page_is;
  low = is.low;
  high = omega (arith, is.high);
}

-- the next write, or an earlier one
last_or_before : (trace : GuestTrace) (page first now place : ℕ) → IsAmong trace page first (now + 1) place
    → (place ≡ now + 1) ⊎ IsAmong trace page first now place
last_or_before trace page first now place is = elim (cases_eq place (now + 1)) [
  | inl e ↦ inl e
  | inr apart ↦ inr (record {
    write = is.write;
    there = is.there;
    page_is = is.page_is;
    low = is.low;
    high =
        omega (arith, is.high, apart);
  })
]

-- the page of the write at an index
page_there : (trace : GuestTrace) (page first end now : ℕ) (d : GuestWrite) → IsAmong trace page first end (now + 1)
    → (get_or trace.writes now d).page ≡ page
page_there trace page first end now d is =
    let index : now + 1 - 1 ≡ now = omega arith in
    let there : slice_get trace.writes now ≡ Some is.write = ap (slice_get trace.writes) (sym index) ∙ is.there in
    ap (λ (w : GuestWrite). w.page) (get_or_from_slice_get trace.writes now is.write d there) ∙ is.page_is

pub replay_begins : (trace : GuestTrace) (start : Start) (number first : ℕ) (facts : GuestFacts)
    → facts ≡ first_guest start number
    → ((page : ℕ) → OwnsPage facts page → slice_index start.places page ≤ first)
    → IsReplaying trace start number first first facts
replay_begins trace start number first facts is low = record {
  start_is = ap (λ (f : GuestFacts). f.start) is;
  number_is = ap (λ (f : GuestFacts). f.number) is;
  pending = ap (λ (f : GuestFacts). f.pending) is;
  stored = λ page place visited. absurd (subst (λ (f : GuestFacts). IsVisited f.stores page place) is visited);
  all = λ page place own among. absurd (omega (arith, among.low, among.high));
  low = λ page own. rw (ap (λ (f : GuestFacts). last_place f page) is) (low page own);
}

-- a write that isn't the guest's own
pub passes_by : (trace : GuestTrace) (start : Start) (number first now : ℕ) (facts : GuestFacts) (d : GuestWrite)
    → IsReplaying trace start number first now facts
    → (OwnsPage facts (get_or trace.writes now d).page → ⊥) → IsReplaying trace start number first (now + 1) facts
passes_by trace start number first now facts d is other = record {
  start_is = is.start_is;
  number_is = is.number_is;
  pending = is.pending;
  stored = λ page place visited. let s = is.stored page place visited in (s.0, more trace page first now place s.1);
  all = λ page place own among. elim (last_or_before trace page first now place among) [
    | inl e ↦ absurd (other (subst (λ (p : ℕ). OwnsPage facts p)
        (sym (page_there trace page first (now + 1) now d (subst (λ (v : ℕ). IsAmong trace page first (now + 1) v) e
        among))) own))
    | inr before ↦ is.all page place own before
  ];
  low = λ page own. omega (arith, is.low page own);
}

last_after : (before page place q : ℕ) (stores : List (ℕ × ℕ)) (now : ℕ) → place ≤ now
    → place_after before stores q ≤ now
    → place_after before ((page, place) ∷ stores) q ≤ now
last_after before page place q stores now one others = elim (cases_eq page q) [
  | inl e ↦ rw (ap (λ (o : Option ℕ). unwrap_or o before) (cond-true (eqb page q) (Some place) (last_visit stores q)
      (eq-eqb page q e))) one
  | inr apart ↦ rw (ap (λ (o : Option ℕ). unwrap_or o before)
      (cond-false (eqb page q) (Some place) (last_visit stores q) (ne_eqb page q apart))) others
]

-- one of its own
pub replays_one : (trace : GuestTrace) (start : Start) (number first now : ℕ) (facts new : GuestFacts) (d : GuestWrite)
    → IsReplaying trace start number first now facts
    → first ≤ now → now < length trace.writes → OwnsPage facts (get_or trace.writes now d).page
    → new ≡ after_mark (after_store (get_or trace.writes now d).page (now + 1) facts)
    → IsReplaying trace start number first (now + 1) new
replays_one trace start number first now facts new d is low inside own new_is =
    let page : ℕ = (get_or trace.writes now d).page in
    let after : GuestFacts = after_mark (after_store page (now + 1) facts) in
    let here : IsAmong trace page first (now + 1) (now + 1) = record {
      write = get_or trace.writes now d;
      there = ap (slice_get trace.writes) (let index : now + 1 - 1 ≡ now = omega arith in index)
          ∙ slice_get-get_or trace.writes now d inside;
      page_is = refl;
      low = omega (arith, low);
      high = omega arith;
    } in
    let all : IsReplaying trace start number first (now + 1) after = record {
      start_is = is.start_is;
      number_is = is.number_is;
      pending = refl;
      stored = λ q place visited. elim visited [
        | inl same ↦ (
          subst (λ (p : ℕ). OwnsPage facts p) same.0 own,
          subst (λ (p : ℕ). IsAmong trace p first (now + 1) place) same.0
              (subst (λ (v : ℕ). IsAmong trace page first (now + 1) v) same.1 here),
        )
        | inr before ↦ let s = is.stored q place before in (s.0, more trace q first now place s.1)
      ];
      all = λ q place mine among. elim (last_or_before trace q first now place among) [
        | inl e ↦ inl (
          page_there trace q first (now + 1) now d
              (subst (λ (v : ℕ). IsAmong trace q first (now + 1) v) e among),
          sym e,
        )
        | inr before ↦ inr (is.all q place mine before)
      ];
      low = λ q mine. last_after (slice_index facts.start.places q) page (now + 1) q facts.stores (now + 1)
          (omega arith) (omega (arith, is.low q mine));
    } in
    subst (λ (f : GuestFacts). IsReplaying trace start number first (now + 1) f) (sym new_is) all

-- the write at an index, whoever's page it is
pub replays_next : (trace : GuestTrace) (start : Start) (number first now page : ℕ) (facts new : GuestFacts)
    → IsReplaying trace start number first now facts
    → first ≤ now → now < length trace.writes → page ≡ (get_or (touches_of trace) now no_touch).page
    → IsStoredIfOwn page (now + 1) facts new
    → IsReplaying trace start number first (now + 1) new
replays_next trace start number first now page facts new is low inside same after =
    let touched : page ≡ (get_or trace.writes now no_write).page = same
    ∙ ap (λ (t : GuestTouch). t.page) (get_or-map touch_of trace.writes now no_write no_touch inside) in
    let stored : IsStoredIfOwn (get_or trace.writes now no_write).page (now + 1) facts new =
    subst (λ (p : ℕ). IsStoredIfOwn p (now + 1) facts new) touched after in
    elim stored [
      | inl own ↦ replays_one trace start number first now facts new no_write is low inside own.0 own.1
      | inr other ↦ subst (λ (f : GuestFacts). IsReplaying trace start number first (now + 1) f) (sym other.1)
          (passes_by trace start number first now facts no_write is other.0)
    ]

-- ---- the ticks of places

abbrev pub IsPoint : GuestTrace → ℕ → ℕ → Type 0
IsPoint trace tick count =
    IsPartitionPoint (λ (t : GuestTouch). ltb t.tick tick ≡ true) (λ (t : GuestTouch). ltb t.tick tick ≡ false)
    (touches_of trace) count

touch_there : (trace : GuestTrace) (index : ℕ) (write : GuestWrite) → slice_get trace.writes index ≡ Some write
    → get_or (touches_of trace) index no_touch ≡ touch_of write
touch_there trace index write there =
    get_or-map touch_of trace.writes index no_write no_touch (slice_get_within trace.writes index write there)
    ∙ ap touch_of (get_or_from_slice_get trace.writes index write no_write there)

-- the writes before a tick are the first ones
pub is_before : (trace : GuestTrace) (tick count index : ℕ) (write : GuestWrite) → IsPoint trace tick count
    → slice_get trace.writes index ≡ Some write → index < count → write.tick < tick
is_before trace tick count index write point there low =
    ltb-true write.tick tick (ap (λ (t : GuestTouch). ltb t.tick tick) (sym (touch_there trace index write there))
    ∙ point.0 index no_touch (omega arith) low)

pub is_from : (trace : GuestTrace) (tick count index : ℕ) (write : GuestWrite) → IsPoint trace tick count
    → slice_get trace.writes index ≡ Some write → count ≤ index → tick ≤ write.tick
is_from trace tick count index write point there high =
    let within : index < length trace.writes = slice_get_within trace.writes index write there in
    let len : length (touches_of trace) ≡ length trace.writes = length-map trace.writes touch_of in
    let not_before : ltb write.tick tick ≡ false =
    ap (λ (t : GuestTouch). ltb t.tick tick) (sym (touch_there trace index write there))
    ∙ point.1 index no_touch high (omega (arith, within, len)) in
    elim (cases_lt write.tick tick) [
      | inl lt ↦ absurd (false≢true (sym not_before ∙ lt-ltb write.tick tick lt))
      | inr is ↦ is
    ]

-- no page opens with a place past the writes before the round
pub opens_low : (trace : GuestTrace) (from first : ℕ) (start : Start) (page : ℕ) → IsPoint trace from first
    → OpensAt trace from start
    → page < length start.places → slice_index start.places page ≤ first
opens_low trace from first start page point opens real =
    let same : slice_index start.places page ≡ version_before trace page from =
    opens.places page (omega (arith, real, opens.pages)) in
    elim (version_is_place trace page from) [
      | inl none ↦ omega (arith, same, none)
      | inr is ↦ elim (cases_lt (version_before trace page from - 1) first) [
        | inl low ↦ omega (arith, same, is.some, low)
        | inr high ↦ absurd (omega (
          arith,
          is.high,
          is_from trace from first (version_before trace page from - 1)
              is.write point is.there high,
        ))
      ]
    ]

pub replay_ends : (trace : GuestTrace) (start : Start) (number from to first end now : ℕ) (facts : GuestFacts)
    → IsPoint trace from first → IsPoint trace to end
    → IsReplaying trace start number first now facts → ((place : ℕ) → first < place → place ≤ now → place ≤ end)
    → ((place : ℕ) → first < place → place ≤ end → place ≤ now)
    → HasReplayed trace from to facts
replay_ends trace start number from to first end now facts begins ends is lower upper = record {
  pending = is.pending;
  stored = λ page place visited.
      let found = is.stored page place visited in
      let among = found.1 in (
        found.0,
        record {
          write = among.write;
          some = omega (arith, among.low);
          there = among.there;
          page_is = among.page_is;
          low = is_from trace from first (place - 1) among.write begins among.there (omega (arith, among.low));
          high = is_before trace to end (place - 1) among.write ends among.there
              (omega (arith, lower place among.low among.high, among.low));
        },
      );
  all = λ page place own there.
      let low : first < place = elim (cases_lt (place - 1) first) [
        | inl lt ↦ absurd (omega (
          arith,
          there.low,
          is_before trace from first (place - 1) there.write begins
              there.there lt,
        ))
        | inr ge ↦ omega (arith, ge, there.some)
      ] in
      let high : place ≤ end = elim (cases_lt (place - 1) end) [
        | inl lt ↦ omega (arith, lt)
        | inr ge ↦ absurd (omega (arith, there.high, is_from trace to end (place - 1) there.write ends there.there ge))
      ] in
      is.all page place own (record {
        write = there.write;
        there = there.there;
        page_is = there.page_is;
        low = low;
        high = upper place low high;
      });
}
