-- How rounds are joined: what holds after one follows from what held before it and from what it did.
use Rattle.std.proofs.Common.{◌≡◌, ℕ, ◌+◌, ◌/◌, ◌<◌, ◌≤◌, ◌⊎◌, inl, inr, Bool, true, false}
use Rattle.std.proofs.Common.{leb, ◌&&◌, List, [], ◌∷◌, ◌++◌, length, map, get_or, refl, sym, ap, subst, ◌∙◌}
use Rattle.std.proofs.Common.{arith}
use Rattle.std.specs.Prelude.{Option, Some, None, IfSome, slice_get, slice_index}
use Rattle.std.specs.List.{All, Contains}
use Rattle.std.proofs.lemmas.Bool.{cases_Bool, cases_lt, and_parts, lt-ltb, le-ltb, false≢true}
use Rattle.std.proofs.lemmas.List.{get_or_append_left, get_or-append-add, length-append, length-map}
use Rattle.std.proofs.lemmas.List.{get_or_default}
use Rattle.std.proofs.lemmas.Option.{none-some, slice_get_within, slice_get-get_or}
use Rattle.migration_model.specs.Trace.{GuestTrace}
use Rattle.migration_model.specs.Touches.{touches_of, is_written}
use Rattle.migration_model.specs.Versions.{IsWritten, version_before}
use Rattle.migration_model.specs.Rounds.{PlannedRound}
use Rattle.migration_model.specs.Live.{IsPlaceOf, LiveRound, KeepsLaw, LiveRounds, IsSentWith, IsInBase, WasCurrent}
use Rattle.migration_model.specs.Live.{IsDue, page_copier, sent_by_copier}
use Rattle.migration_model.proofs.Touches.{written_is_lem}
use Rattle.migration_model.proofs.Placed.{version_rises}
use Rattle.migration_model.proofs.Warm.{version_low}
use Rattle.page_bitmap.specs.Pages.{in_words}
use Rattle.dirty_words.specs.Seats.{ClosedView}
use Rattle.dirty_words.specs.Closing.{FitsPages}
use Rattle.stream_lanes.specs.Ends.{OutView}
use Rattle.live_tasks.specs.CopierStates.{CopierStateView}
use Rattle.live_tasks.specs.RoundLogs.{frames_sent}
use Rattle.live_engine.specs.Lists.{rows_of}
use Rattle.live_engine.specs.declared.opening.Team.{Team}
use Rattle.live_engine.specs.Runs.{IsUnderWay}
use Rattle.live_engine.specs.Joining.{IsLiveRound, IsMarked, IsSentBy, lanes_of, HaveCapacity, HaveSentNothing}
use Rattle.live_engine.specs.Joining.{HavePosted}
use Rattle.live_engine.specs.Joining.{IsHonestText, IsCurrentText, IsAsInBase, AreJoined}
use Rattle.live_engine.specs.Warm.{is_lacking}
use Rattle.live_engine.proofs.Each.{pick}
use Rattle.live_engine.proofs.ScanOrder.{fst_in}
use Rattle.live_engine.proofs.Visits.{version_stays}
use Rattle.live_tasks.proofs.Basics.{false_leb}
use Rattle.stream_receivers.proofs.Ends.{holds_at}
use Rattle.live_engine.proofs.Law.{law_more, law_of_all}
use Rattle.live_engine.proofs.Pushed.{last_of, is_last}
use Rattle.live_engine.proofs.SentOn.{sum_holds, capacity_at, sent_more, no_frames, nothing_sent}

and_none : (a b : Bool) → b ≡ false → (a && b) ≡ false
and_none true b e = e
and_none false b e = refl

-- ---- what was sent earlier

in_base_after : (trace : GuestTrace) (base : Option ℕ) (from to page : ℕ) → version_before trace page to
    ≡ version_before trace page from
    → IsInBase trace base from page → IsInBase trace base to page
in_base_after trace None from to page same is = is
in_base_after trace (Some base) from to page same is = omega (arith, same, is)

current_before : (trace : GuestTrace) (base : Option ℕ) (from to page : ℕ) (rounds : List LiveRound) (round : LiveRound)
    → version_before trace page to ≡ version_before trace page from
    → WasCurrent trace base from rounds page → WasCurrent trace base to (rounds ++ round ∷ []) page
current_before trace base from to page rounds round same (inl is) = inl (in_base_after trace base from to page same is)
current_before trace base from to page rounds round same (inr is) =
    let low = is.2 in
    let len : length (rounds ++ round ∷ []) ≡ length rounds + 1 = length-append rounds (round ∷ []) in
    let sent = is.4 in
    let stamp = sent.4.1 in inr (
      is.0,
      is.1,
      omega (arith, low, len),
      get_or_append_left rounds (round ∷ []) is.1 is.0 low ∙ is.3,
      (sent.0, sent.1, sent.2, sent.3, (sent.4.0, omega (arith, stamp, same))),
    )

current_now : (trace : GuestTrace) (base : Option ℕ) (to page : ℕ) (rounds : List LiveRound) (round : LiveRound)
    → IsSentWith round page (version_before trace page to)
    → WasCurrent trace base to (rounds ++ round ∷ []) page
current_now trace base to page rounds round sent =
    let len : length (rounds ++ round ∷ []) ≡ length rounds + 1 = length-append rounds (round ∷ []) in
    let index : length rounds + 0 ≡ length rounds = omega arith in inr (
      length rounds,
      round,
      omega (arith, len),
      ap (λ (k : ℕ). get_or (rounds ++ round ∷ []) k round) (sym index) ∙ get_or-append-add rounds (round ∷ []) 0 round,
      (sent.0, (page, version_before trace page to), sent.1, sent.2, (refl, omega arith)),
    )

later_tick : (base : Option ℕ) (from to : ℕ) → from ≤ to → IfSome base (λ tick. tick ≤ from)
    → IfSome base (λ tick. tick ≤ to)
later_tick None from to le low = tt
later_tick (Some base) from to le low = omega (arith, le, low)

as_in_base : (trace : GuestTrace) (base : Option ℕ) (page : ℕ) (old new : List ℕ) → slice_index new page
    ≡ slice_index old page → IsAsInBase trace base old page → IsAsInBase trace base new page
as_in_base trace None page old new same is = is
as_in_base trace (Some base) page old new same is = same ∙ is

-- whether a page was written is decided
pub written_or_not : (trace : GuestTrace) (from to page : ℕ) → IsWritten trace from to page
    ⊎ (IsWritten trace from to page → ⊥)
written_or_not trace from to page = elim (cases_Bool (is_written (touches_of trace) from to page)) [
  | inl hit ↦ inl ((written_is_lem trace from to page).0 hit)
  | inr not_hit ↦ inr (λ is. false≢true (sym not_hit ∙ (written_is_lem trace from to page).1 is))
]

marked_or_not : (dirty : List ℕ) (page : ℕ) → IsMarked dirty page ⊎ (IsMarked dirty page → ⊥)
marked_or_not dirty page = elim (cases_Bool (in_words dirty page)) [
  | inl hit ↦ inl hit
  | inr not_hit ↦ inr (λ is. false≢true (sym not_hit ∙ is))
]

module _ (trace : GuestTrace) (base : Option ℕ) (skip : Bool) (copiers from to : ℕ) (planned : List PlannedRound)
    (rounds : List LiveRound) (plan : PlannedRound) (round : LiveRound)
    (old new : ClosedView) (before after : List (List OutView)) (le : from ≤ to) (from_is : plan.from ≡ from)
    (to_is : plan.to ≡ to)
    (joined : AreJoined trace base copiers from planned rounds old before)
    (is : IsLiveRound trace skip copiers old.dirty from to new round)
    (posted : HavePosted trace copiers round before after) where
  written_now : (page : ℕ) → IsWritten trace from to page → IsWritten trace plan.from plan.to page
  written_now page w = subst (λ (a : ℕ). IsWritten trace a plan.to page) (sym from_is)
      (subst (λ (b : ℕ). IsWritten trace from b page) (sym to_is) w)

  -- an unmarked page was sent as it is, in this round or before
  sent_or_before : (page : ℕ) → page < trace.pages → (IsMarked new.dirty page → ⊥)
      → IsSentWith round page (version_before trace page to)
      ⊎ ((version_before trace page to ≡ version_before trace page from) × (IsMarked old.dirty page → ⊥))
  sent_or_before page real unmarked = elim (written_or_not trace from to page) [
    | inl written ↦ elim (is.caught_up page real (inr written)) [
      | inl marked ↦ absurd (unmarked marked)
      | inr sent ↦ inl sent
    ]
    | inr not_written ↦ elim (marked_or_not old.dirty page) [
      | inl marked ↦ elim (is.caught_up page real (inl marked)) [
        | inl still ↦ absurd (unmarked still)
        | inr sent ↦ inl sent
      ]
      | inr not_marked ↦ inr (version_stays trace page from to le not_written, not_marked)
    ]
  ]

  -- a frame sent by the round's end is that of a page at a version that it had by then
  honest_after : (text : List ℕ) → IsSentBy after text → IsHonestText trace new.versions text
  honest_after text sent = elim (posted.new text sent) [
    | inl earlier ↦
        let honest = joined.honest text earlier in
        let real : honest.frame.page < trace.pages = honest.spells.is_frame.page in
        record {
          frame = honest.frame;
          spells = honest.spells;
          content = honest.content;
          bound = omega (
            arith,
            honest.bound,
            joined.versions honest.frame.page real,
            is.versions honest.frame.page
                real,
            version_rises trace honest.frame.page from to le,
          );
        }
    | inr now ↦
        let page : ℕ = now.0 in
        let place : ℕ = now.1 in
        let spells = now.3 in
        let real : page < trace.pages = (is.only page (inl (fst_in round.sent page place now.2))).0 in
        let over = is.over page place now.2 in
        let stamp = spells.is_frame.stamp_is in
        let low : spells.frame.stamp ≤ slice_index new.versions page = omega
        (arith, over, stamp, is.versions page real) in
        record {
          frame = spells.frame;
          spells = spells.spells;
          content = spells.is_frame.content;
          bound = subst (λ (p : ℕ). spells.frame.stamp ≤ slice_index new.versions p) (sym spells.is_frame.page_is) low;
        }
  ]

  current_after : (page : ℕ) → page < trace.pages → (IsMarked new.dirty page → ⊥)
      → ((text : List ℕ) × IsSentBy after text × IsCurrentText trace new.versions page text)
      ⊎ IsAsInBase trace base new.versions page
  current_after page real unmarked = elim (sent_or_before page real unmarked) [
    | inl sent ↦
        let version : ℕ = version_before trace page to in
        let found = posted.all page version sent in
        let spells = found.2 in
        let stamp = spells.is_frame.stamp_is in inl (
          found.0,
          found.1,
          record {
            frame = spells.frame;
            spells = spells.spells;
            page_is = spells.is_frame.page_is;
            stamp_is = omega (arith, stamp, is.versions page real, version_low trace page to);
          },
        )
    | inr earlier ↦
        let same : slice_index new.versions page ≡ slice_index old.versions page = is.versions page real ∙ earlier.0
        ∙ sym (joined.versions page real) in
        elim (joined.current page real earlier.1) [
          | inl found ↦
              let current = found.2 in inl (
                found.0,
                posted.kept found.0 found.1,
                record {
                  frame = current.frame;
                  spells = current.spells;
                  page_is = current.page_is;
                  stamp_is =
                      current.stamp_is ∙ sym same;
                },
              )
          | inr first ↦ inr (as_in_base trace base page old.versions new.versions same first)
        ]
  ]

  count_after : (copier : ℕ) (outs : List OutView) → slice_get after copier ≡ Some outs
      → frames_sent outs ≤ sent_by_copier copiers (rounds ++ round ∷ []) copier
  count_after copier outs there =
      let same : length after ≡ length before = sym
      (length-map after (λ (row : List OutView). map (λ (out : OutView). out.lane) row)) ∙ ap length posted.lanes
      ∙ length-map before (λ (row : List OutView). map (λ (out : OutView). out.lane) row) in
      let low : copier < length before = omega (arith, slice_get_within after copier outs there, same) in
      let was = pick before copier low in
      let was_there : slice_get before copier ≡ Some was.0 = slice_get-get_or before copier was.0 low
      ∙ ap Some (sym was.1) in
      let one = joined.count copier was.0 was_there in
      let two = posted.count copier was.0 outs was_there there in
      omega (arith, one, two, sent_more copiers rounds round copier)

  pub joined_more : AreJoined trace base copiers to (planned ++ plan ∷ []) (rounds ++ round ∷ []) new after
  joined_more = record {
    base_low = later_tick base from to le joined.base_low;
    versions = is.versions;
    honest = honest_after;
    current = current_after;
    was_sent = λ page real unmarked. elim (sent_or_before page real unmarked) [
      | inl sent ↦ current_now trace base to page rounds round sent
      | inr before ↦ current_before trace base from to page rounds round before.0 (joined.was_sent page real before.1)
    ];
    put_off = λ page real put_off.
        let last = is_last rounds round put_off.0 put_off.1 in
        elim put_off.2 [
          | inl skipped ↦ (is.skips page (subst (λ (r : LiveRound). Contains r.skipped page) (sym last) skipped)).2
          | inr deferred ↦ is.put_off page (subst (λ (r : LiveRound). Contains r.deferred page) (sym last) deferred)
        ];
    marked = λ page real marked. elim (is.due page real marked) [
      | inl written ↦ inr (inr (plan, last_of planned plan, written_now page written))
      | inr later ↦ inr (inl (round, last_of rounds round, later))
    ];
    count = count_after;
  }

  pub keeps_law : (lane : ℕ) → HaveCapacity lane (lanes_of before) → (1 ≤ length rounds ⊎ (skip ≡ false))
      → KeepsLaw trace base skip copiers lane planned rounds plan round
  keeps_law lane capacity later_or_all = record {
    sent_order = is.sent_order;
    skipped_order = is.skipped_order;
    deferred_order = is.deferred_order;
    apart = is.apart;
    deferred_apart = is.deferred_apart;
    defers = λ page deferred.
        let crowded = posted.crowded page deferred in
        let full = crowded.2 in
        let holds = capacity_at lane after (page_copier copiers page) crowded.0 full.0 full.1
        (subst (HaveCapacity lane) (sym posted.lanes) capacity) crowded.1 full.2 full.3 in
        let sent = sum_holds (λ (out : OutView). length out.sent) crowded.0 full.0 full.1 full.2 full.3 in
        let bound = joined_more.count (page_copier copiers page) crowded.0 crowded.1 in
        let least = full.4 in
        omega (arith, holds, sent, bound, least);
    due = λ page real due.
        let due_from : IsDue trace base from rounds page = subst (λ (a : ℕ). IsDue trace base a rounds page) from_is
        due in
        elim (marked_or_not old.dirty page) [
          | inl marked ↦ is.found page real marked
          | inr unmarked ↦ elim due_from [
            | inl put_off ↦ absurd (unmarked (joined.put_off page real put_off))
            | inr never ↦ absurd (never (joined.was_sent page real unmarked))
          ]
        ];
    only = λ page listed.
        let o = is.only page listed in (
          o.0,
          elim o.1 [
            | inl marked ↦ elim (joined.marked page o.0 marked) [
              | inl none ↦ inl (inr (λ was. elim was [
                | inl first ↦ none.1 (subst (λ (a : ℕ). IsInBase trace base a page) from_is first)
                | inr sent ↦ (let low = sent.2 in let l : length rounds ≡ 0 = ap length none.0 in omega (arith, low, l))
              ]))
              | inr either ↦ elim either [
                | inl put_off ↦ inl (inl put_off)
                | inr written ↦ inr (inl written)
              ]
            ]
            | inr written ↦ inr (inr (written_now page written))
          ],
        );
    stamps = λ page stamp sent. elim (is.stamps page stamp sent) [
      | inl opening ↦ inl (opening ∙ ap (version_before trace page) (sym from_is))
      | inr place ↦ inr (subst (λ (a : ℕ). IsPlaceOf trace page a plan.to stamp) (sym from_is)
          (subst (λ (b : ℕ). IsPlaceOf trace page from b stamp) (sym to_is) place))
    ];
    skips = λ page skipped.
        let s = is.skips page skipped in (
          s.0,
          elim later_or_all [
            | inl later ↦ later
            | inr never ↦ absurd (false≢true (sym never ∙ s.0))
          ],
          written_now page s.1,
        );
  }

-- ---- the beginning

-- the versions before the first round, from those of the base
at_first : (trace : GuestTrace) (base : Option ℕ) (tick page : ℕ) → IfSome base (λ from. from ≤ tick)
    → ((is_lacking trace base tick page ≡ true) × (IsInBase trace base tick page → ⊥))
    ⊎ ((is_lacking trace base tick page ≡ false) × IsInBase trace base tick page
    × ((versions : List ℕ) → slice_index versions page ≡ version_before trace page tick
    → IsAsInBase trace base versions page))
at_first trace None tick page low = inl (refl, λ is. is)
at_first trace (Some base) tick page low = elim (cases_lt (version_before trace page base)
    (version_before trace page tick)) [
      | inl newer ↦ inl (lt-ltb _ _ newer, λ is. omega (arith, newer, is))
      | inr same ↦ inr (
        le-ltb _ _ same,
        same,
        λ versions is.
            (let up = version_rises trace page base tick low in omega (arith, is, same, up)),
      )
    ]

-- nothing was sent, the pages that the destination lacks are marked, and the versions are those before the first round
pub joined_first : (trace : GuestTrace) (base : Option ℕ) (copiers tick : ℕ) (closed : ClosedView)
    (rows : List (List OutView)) → IfSome base (λ from. from ≤ tick)
    → ((page : ℕ) → page < trace.pages → slice_index closed.versions page ≡ version_before trace page tick)
    → ((page : ℕ) → page < trace.pages → in_words closed.dirty page ≡ is_lacking trace base tick page)
    → HaveSentNothing rows → AreJoined trace base copiers tick [] [] closed rows
joined_first trace base copiers tick closed rows low versions marks none = record {
  base_low = low;
  versions = versions;
  honest = λ text sent. absurd (nothing_sent rows text none sent);
  current = λ page real unmarked. elim (at_first trace base tick page low) [
    | inl lacks ↦ absurd (unmarked (marks page real ∙ lacks.0))
    | inr has ↦ inr (has.2 closed.versions (versions page real))
  ];
  was_sent = λ page real unmarked. elim (at_first trace base tick page low) [
    | inl lacks ↦ absurd (unmarked (marks page real ∙ lacks.0))
    | inr has ↦ inl has.1
  ];
  put_off = λ page real put_off. absurd (none-some put_off.0 put_off.1);
  marked = λ page real marked. elim (at_first trace base tick page low) [
    | inl lacks ↦ inl (refl, lacks.1)
    | inr has ↦ absurd (false≢true (sym has.0 ∙ sym (marks page real) ∙ marked))
  ];
  count = λ copier outs there. omega (
    arith,
    no_frames outs
        (holds_at (All (λ (out : OutView). out.sent ≡ [])) rows copier outs none there),
  );
}

-- the law after a round in which pages may be skipped only if skipping is on and a round came before
pub law_next : (trace : GuestTrace) (base : Option ℕ) (skip now : Bool) (copiers lane : ℕ) (planned : List PlannedRound)
    (rounds : List LiveRound) (plan : PlannedRound) (round : LiveRound)
    (old new : ClosedView) (before after : List (List OutView)) → now ≡ (skip && leb 1 (length rounds))
    → plan.from ≤ plan.to → AreJoined trace base copiers plan.from planned rounds old before
    → IsLiveRound trace now copiers old.dirty plan.from plan.to new round → HavePosted trace copiers round before after
    → HaveCapacity lane (lanes_of before)
    → LiveRounds trace base skip copiers lane planned rounds
    → LiveRounds trace base skip copiers lane (planned ++ plan ∷ []) (rounds ++ round ∷ [])
law_next trace base skip now copiers lane planned rounds plan round old new before after now_is le joined is posted
    capacity law =
    let first_or_later : (1 ≤ length rounds) ⊎ (now ≡ false) = elim (cases_lt 0 (length rounds)) [
      | inl later ↦ inl (omega (arith, later))
      | inr first ↦ inr (now_is ∙ and_none skip (leb 1 (length rounds))
          (false_leb 1 (length rounds) (omega (arith, first))))
    ] in
    law_more trace base skip copiers lane planned rounds plan round law
    (law_of_all trace base now skip copiers lane planned rounds plan round
    (λ on. (and_parts skip (leb 1 (length rounds)) (sym now_is ∙ on)).0)
    (keeps_law trace base now copiers plan.from plan.to planned rounds plan round old new before after le refl refl
    joined is posted lane capacity first_or_later))

pub joined_next : (trace : GuestTrace) (base : Option ℕ) (now : Bool) (copiers : ℕ) (planned : List PlannedRound)
    (rounds : List LiveRound) (plan : PlannedRound) (round : LiveRound)
    (old new : ClosedView) (before after : List (List OutView)) → plan.from ≤ plan.to
    → AreJoined trace base copiers plan.from planned rounds old before
    → IsLiveRound trace now copiers old.dirty plan.from plan.to new round → HavePosted trace copiers round before after
    → AreJoined trace base copiers plan.to (planned ++ plan ∷ []) (rounds ++ round ∷ []) new after
joined_next trace base now copiers planned rounds plan round old new before after le joined is posted =
    joined_more trace base now copiers plan.from plan.to planned rounds plan round old new before after le refl refl
    joined is posted

-- what the last round closed fits the trace
pub fits_pages : (trace : GuestTrace) (base : Option ℕ) (tick : ℕ) (team : Team) (planned : List PlannedRound)
    (rounds : List LiveRound) (closed : ClosedView) (states : List CopierStateView)
    → IsUnderWay trace team closed states → AreJoined trace base team.copiers tick planned rounds closed
    (rows_of states) → FitsPages closed trace.pages (length trace.writes)
fits_pages trace base tick team planned rounds closed states under_way joined = record {
  versions = under_way.size;
  low = λ page d low.
      let real : page < trace.pages = omega (arith, low, under_way.size) in
      let same : get_or closed.versions page d ≡ slice_index closed.versions page = get_or_default closed.versions page
      d 0 low in
      omega (arith, same, joined.versions page real, version_low trace page tick);
  dirty = under_way.next.words ∙ ap (λ (n : ℕ). (n + 63) / 64) under_way.size;
  real = λ page marked. omega (arith, under_way.next.real page marked, under_way.size);
}
