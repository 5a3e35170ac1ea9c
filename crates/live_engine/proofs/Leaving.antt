-- What a round leaves, from what its threads gave back and from what the closed table says about each page.
use Rattle.std.proofs.Common.{◌≡◌, ℕ, ◌+◌, ◌/◌, ◌%◌, ◌<◌, ◌≤◌, ◌⊎◌, inl, inr, Bool, List, [], ◌∷◌, ◌++◌, length, map}
use Rattle.std.proofs.Common.{refl, sym, ap, subst, ◌∙◌, arith}
use Rattle.std.specs.Prelude.{Some, IsTrue, is_some, slice_get, slice_index}
use Rattle.std.specs.List.{Contains, flat_map}
use Rattle.std.proofs.Math.Nat.{mod-lt}
use Rattle.std.proofs.lemmas.List.{get_or-map, length-map, map-append}
use Rattle.std.proofs.lemmas.Option.{slice_get-get_or, same_Some}
use Rattle.std.proofs.lemmas.Bool.{false≢true}
use Rattle.migration_model.specs.Trace.{GuestTrace}
use Rattle.migration_model.specs.Versions.{IsWritten, version_before}
use Rattle.migration_model.specs.Live.{IsPlaceOf, LiveRound, live_round_with, IsInScanOrder, IsListed}
use Rattle.page_bitmap.specs.Pages.{in_words}
use Rattle.dirty_core.specs.Start.{Start, IsStart, start_with, sizes_of, GuestOwns, CopierOwnsPage}
use Rattle.dirty_core.specs.Runs.{IsVisited, place_after}
use Rattle.dirty_words.specs.Facts.{OwnsPage}
use Rattle.dirty_words.specs.Closing.{EachPageLeft, PageLeft, HasStored}
use Rattle.dirty_words.specs.Seats.{TableView, GuestView, CopyView, ClosedView}
use Rattle.stream_lanes.specs.Ends.{OutView}
use Rattle.live_tasks.specs.declared.copier.Copier.{Copier}
use Rattle.live_tasks.specs.RoundLogs.{IsSentAt}
use Rattle.live_tasks.specs.RoundLogs as boxes
use Rattle.live_tasks.specs.Scans.{IsOwn}
use Rattle.live_tasks.specs.Replays.{OpensAt}
use Rattle.live_engine.specs.Seated.{IsReplayed, AreReplayed, IsCopied, AreCopied}
use Rattle.live_engine.specs.Joining.{IsLiveRound}
use Rattle.live_engine.proofs.Each.{each_got}
use Rattle.live_engine.proofs.ScanOrder.{fst_in, place_of, in_piece, in_all, in_scan_order}
use Rattle.live_engine.proofs.Visits.{last_is_visit, visit_has_last, stored_is_visit, place_is_written}
use Rattle.live_engine.proofs.Visits.{written_has_place, version_stored}

zero_and : (i : ℕ) → i ≡ 0 + i
zero_and i = omega arith

-- all that is known when the table is closed
pub record IsClosedRound (trace : GuestTrace) (skip : Bool) (table : TableView) (from to streams : ℕ)
    (rows : List (List OutView)) (guests : List GuestView) (copiers : List Copier) (closed : ClosedView) : Type 0 where
  pub span : from ≤ to
  pub opens : OpensAt trace from table.start
  pub is_start : IsStart table.start
  pub replayed : AreReplayed trace table from to guests
  pub copied : AreCopied trace skip table streams rows copiers
  pub left : EachPageLeft table.start guests (map (λ c. c.seat) copiers) closed
  pub next : IsStart (start_with closed.versions closed.dirty table.start.guests table.start.copiers)

abbrev sent_by : Copier → List (ℕ × ℕ)
sent_by c = c.state.log.sent

abbrev skipped_by : Copier → List ℕ
skipped_by c = c.state.log.skipped

abbrev deferred_by : Copier → List ℕ
deferred_by c = c.state.log.deferred

-- what all copiers sent, skipped and deferred, in order of their numbers
abbrev pub round_of : List Copier → LiveRound
round_of copiers = live_round_with (flat_map sent_by copiers) (flat_map skipped_by copiers)
    (flat_map deferred_by copiers)

pub pages_by : (copiers : List Copier) → map (λ (s : ℕ × ℕ). s.0) (flat_map sent_by copiers)
    ≡ flat_map (λ (c : Copier). map (λ (s : ℕ × ℕ). s.0) (sent_by c)) copiers
pages_by [] = refl
pages_by (c ∷ cs) = map-append (λ (s : ℕ × ℕ). s.0) (sent_by c) (flat_map sent_by cs)
    ∙ ap (λ (pages : List ℕ). map (λ (s : ℕ × ℕ). s.0) (sent_by c) ++ pages) (pages_by cs)

-- a page with its guest and its copier
record Owned (trace : GuestTrace) (skip : Bool) (table : TableView) (from to streams page : ℕ)
    (rows : List (List OutView)) (copiers : List Copier) (closed : ClosedView) : Type 0 where
  guest : GuestView
  replayed : IsReplayed trace table from to (page % table.start.guests) guest
  owns : OwnsPage guest.facts page
  copier : Copier
  there : slice_get copiers (page / 64 % table.start.copiers) ≡ Some copier
  copied : IsCopied trace skip table streams rows copier (page / 64 % table.start.copiers)
  own : IsOwn copier.seat.facts page
  left : PageLeft table.start guest.facts copier.seat.facts closed page

module _ (trace : GuestTrace) (skip : Bool) (table : TableView) (from to streams : ℕ) (rows : List (List OutView))
    (guests : List GuestView) (copiers : List Copier) (closed : ClosedView)
    (is : IsClosedRound trace skip table from to streams rows guests copiers closed) where
  owned : (page : ℕ) → page < trace.pages → Owned trace skip table from to streams page rows copiers closed
  owned page real =
      let start : Start = table.start in
      let g : ℕ = page % start.guests in
      let c : ℕ = page / 64 % start.copiers in
      let g_low : g < length guests = (let low : g < start.guests = mod-lt page
      (omega (arith, is.is_start.guests_low)) in omega (arith, low, is.replayed.count)) in
      let c_low : c < length copiers = (let low : c < start.copiers = mod-lt (page / 64)
      (omega (arith, is.is_start.copiers_low)) in omega (arith, low, is.copied.count)) in
      let guest = is.replayed.each g g_low in
      let copier = is.copied.each c c_low in
      let guest_there : slice_get guests g ≡ Some guest.0 = slice_get-get_or guests g guest.0 g_low
      ∙ ap Some (sym guest.1) in
      let copier_there : slice_get copiers c ≡ Some copier.0 = slice_get-get_or copiers c copier.0 c_low
      ∙ ap Some (sym copier.1) in
      let seats : List CopyView = map (λ (k : Copier). k.seat) copiers in
      let seat_there : slice_get seats c ≡ Some copier.0.seat =
      slice_get-get_or seats c copier.0.seat (let len : length seats
      ≡ length copiers = length-map copiers (λ (k : Copier). k.seat) in omega (arith, c_low, len))
      ∙ ap Some (get_or-map (λ (k : Copier). k.seat) copiers c copier.0 copier.0.seat c_low
      ∙ ap (λ (k : Copier). k.seat) (sym copier.1)) in
      let real_start : page < length start.places = omega (arith, real, is.opens.pages) in
      let guest_start : guest.0.facts.start ≡ start = ap (λ (t : TableView). t.start) guest.2.table_is in
      let copier_start : copier.0.seat.facts.start ≡ start = ap (λ (t : TableView). t.start) copier.2.table_is in
      let guest_owns : GuestOwns (sizes_of start) g page =
      record {
        page_real = real_start;
        guest_real = mod-lt page (omega (arith, is.is_start.guests_low));
        owner =
            refl;
      } in
      let copier_owns : CopierOwnsPage (sizes_of start) c page = record {
        page_real = real_start;
        word = record {
          word_real = omega (arith, real_start);
          copier_real = mod-lt (page / 64)
              (omega (arith, is.is_start.copiers_low));
          owner = refl;
        };
      } in
      record {
        guest = guest.0;
        replayed = guest.2;
        owns = subst (λ (s : Start). GuestOwns (sizes_of s) guest.0.facts.number page) (sym guest_start)
            (subst (λ (n : ℕ). GuestOwns (sizes_of start) n page) (sym guest.2.number_is) guest_owns);
        copier = copier.0;
        there = copier_there;
        copied = copier.2;
        own = subst (λ (s : Start). CopierOwnsPage (sizes_of s) copier.0.seat.facts.number page) (sym copier_start)
            (subst (λ (n : ℕ). CopierOwnsPage (sizes_of start) n page) (sym copier.2.number_is) copier_owns);
        left = is.left page guest.0 copier.0.seat real_start guest_there seat_there;
      }

  -- what a copier listed is its own
  pub listing : (i : ℕ) (copier : Copier) (page : ℕ) → slice_get copiers i ≡ Some copier
      → boxes.IsListed copier.state.log page
      → (page < trace.pages) × (page / 64 % table.start.copiers ≡ i)
  listing i copier page there listed =
      let copied : IsCopied trace skip table streams rows copier i = each_got (IsCopied trace skip table streams rows)
      copiers i copier is.copied.each there in
      let own : IsOwn copier.seat.facts page = (copied.scanned.listed page listed).0 in
      let start_is : copier.seat.facts.start ≡ table.start = ap (λ (t : TableView). t.start) copied.table_is in
      let real : page < length copier.seat.facts.start.places = own.page_real in
      let same : length copier.seat.facts.start.places
      ≡ length table.start.places = ap (λ (s : Start). length s.places) start_is in (
        omega (arith, real, same, is.opens.pages),
        ap (λ (s : Start). page / 64 % s.copiers) (sym start_is) ∙ own.word.owner ∙ copied.number_is,
      )

  -- so it was listed by the page's own copier
  by_own : (i : ℕ) (copier : Copier) (page : ℕ) → slice_get copiers i ≡ Some copier
      → boxes.IsListed copier.state.log page
      → (real : page < trace.pages) → copier ≡ (owned page real).copier
  by_own i copier page there listed real =
      let o = owned page real in
      same_Some copier o.copier (sym there ∙ ap (slice_get copiers) (sym (listing i copier page there listed).1)
      ∙ o.there)

  sent_listed : (copier : Copier) (page place : ℕ) → Contains (sent_by copier) (page, place)
      → boxes.IsListed copier.state.log page
  sent_listed copier page place sent = inl (fst_in (sent_by copier) page place sent)

  stored_written : (page : ℕ) (o : Owned trace skip table from to streams page rows copiers closed)
      → HasStored o.guest.facts page → IsWritten trace from to page
  stored_written page o stored =
      let visit = stored_is_visit o.guest.facts.stores page stored in
      place_is_written trace page from to visit.0 (o.replayed.replayed.stored page visit.0 visit.1).1

  written_stored : (page : ℕ) (o : Owned trace skip table from to streams page rows copiers closed)
      → IsWritten trace from to page → HasStored o.guest.facts page
  written_stored page o written =
      let place = written_has_place trace page from to written in
      let last = visit_has_last o.guest.facts.stores page place.0
      (o.replayed.replayed.all page place.0 o.owns place.1) in
      ap is_some last.1

  version_left : (page : ℕ) → page < trace.pages → slice_index closed.versions page ≡ version_before trace page to
  version_left page real =
      let o = owned page real in
      let opening : slice_index table.start.places page ≡ version_before trace page from = is.opens.places page real in
      let start_is : o.guest.facts.start ≡ table.start = ap (λ (t : TableView). t.start) o.replayed.table_is in
      o.left.version ∙ ap (λ (s : Start). place_after (slice_index s.places page) o.guest.facts.stores page) start_is
      ∙ version_stored trace page from to (slice_index table.start.places page) o.guest.facts.stores is.span opening
      o.left.rises
      (λ place visit. (o.replayed.replayed.stored page place visit).1)
      (λ place there. o.replayed.replayed.all page place o.owns there)

  -- a page that a copier listed: by its own copier
  sent_own : (page place : ℕ) → Contains (round_of copiers).sent (page, place)
      → (real : page < trace.pages) × IsSentAt (owned page real).copier.state.log page place
  sent_own page place sent =
      let found = in_piece sent_by copiers (page, place) sent in
      let listed = sent_listed found.1 page place found.3 in
      let real = (listing found.0 found.1 page found.2 listed).0 in (
        real,
        subst (λ (c : Copier). Contains (sent_by c) (page, place))
            (by_own found.0 found.1 page found.2 listed real) found.3,
      )

  skipped_own : (page : ℕ) → Contains (round_of copiers).skipped page → (real : page < trace.pages)
      × Contains (owned page real).copier.state.log.skipped page
  skipped_own page skipped =
      let found = in_piece skipped_by copiers page skipped in
      let real = (listing found.0 found.1 page found.2 (inr (inl found.3))).0 in (
        real,
        subst (λ (c : Copier). Contains (skipped_by c) page)
            (by_own found.0 found.1 page found.2 (inr (inl found.3)) real) found.3,
      )

  deferred_own : (page : ℕ) → Contains (round_of copiers).deferred page → (real : page < trace.pages)
      × Contains (owned page real).copier.state.log.deferred page
  deferred_own page deferred =
      let found = in_piece deferred_by copiers page deferred in
      let real = (listing found.0 found.1 page found.2 (inr (inr found.3))).0 in (
        real,
        subst (λ (c : Copier). Contains (deferred_by c) page)
            (by_own found.0 found.1 page found.2 (inr (inr found.3)) real) found.3,
      )

  listed_own : (page : ℕ) → IsListed (round_of copiers) page → (real : page < trace.pages)
      × boxes.IsListed (owned page real).copier.state.log page
  listed_own page (inl sent) =
      let stamp = place_of (round_of copiers).sent page sent in
      let o = sent_own page stamp.0 stamp.1 in
      (o.0, inl (fst_in (sent_by (owned page o.0).copier) page stamp.0 o.1))
  listed_own page (inr (inl skipped)) = let o = skipped_own page skipped in (o.0, inr (inl o.1))
  listed_own page (inr (inr deferred)) = let o = deferred_own page deferred in (o.0, inr (inr o.1))

  own_listed : (page : ℕ) (o : Owned trace skip table from to streams page rows copiers closed)
      → boxes.IsListed o.copier.state.log page → IsListed (round_of copiers) page
  own_listed page o (inl sent) =
      let stamp = place_of (sent_by o.copier) page sent in
      inl (fst_in (round_of copiers).sent page stamp.0
      (in_all sent_by copiers (page / 64 % table.start.copiers) o.copier (page, stamp.0) o.there stamp.1))
  own_listed page o (inr (inl skipped)) = inr (inl
      (in_all skipped_by copiers (page / 64 % table.start.copiers) o.copier page o.there skipped))
  own_listed page o (inr (inr deferred)) = inr (inr
      (in_all deferred_by copiers (page / 64 % table.start.copiers) o.copier page o.there deferred))

  -- the page's own copier is the same, however it is known that the page is the guest's
  same_owner : (page : ℕ) (one two : page < trace.pages) → (owned page one).copier ≡ (owned page two).copier
  same_owner page one two = same_Some (owned page one).copier (owned page two).copier
      (sym (owned page one).there ∙ (owned page two).there)

  in_words_of : (page : ℕ) → page < trace.pages → page / 64 < (trace.pages + 63) / 64
  in_words_of page real = omega (arith, real)

  was_marked : (page : ℕ) (o : Owned trace skip table from to streams page rows copiers closed)
      → (in_words o.copier.seat.facts.start.dirty page) ≡ in_words table.start.dirty page
  was_marked page o = ap (λ (t : TableView). in_words t.start.dirty page) o.copied.table_is

  visit_stamp : (page place : ℕ) (real : page < trace.pages)
      → IsVisited (owned page real).copier.seat.facts.reads page place
      → (place ≡ version_before trace page from) ⊎ IsPlaceOf trace page from to place
  visit_stamp page place real visit = let o = owned page real in elim (o.left.read place visit) [
    | inl opening ↦ inl (opening ∙ is.opens.places page real)
    | inr stored ↦ inr (o.replayed.replayed.stored page place stored).1
  ]

  pub round_left : IsLiveRound trace skip table.start.copiers table.start.dirty from to closed (round_of copiers)
  round_left = record {
    versions = version_left;
    found = λ page real marked.
        let o = owned page real in
        elim (o.copied.scanned.found page o.own (in_words_of page real) (was_marked page o ∙ marked)) [
          | inl listed ↦ own_listed page o listed
          | inr held ↦ absurd (false≢true (sym (o.copied.held page) ∙ held))
        ];
    only = λ page listed.
        let own = listed_own page listed in
        let o = owned page own.0 in (
          own.0,
          elim (o.copied.scanned.listed page own.1).2 [
            | inl marked ↦ inl (sym (was_marked page o) ∙ marked)
            | inr fresh ↦ inr (stored_written page o (o.left.fresh fresh))
          ],
        );
    stamps = λ page stamp sent.
        let own = sent_own page stamp sent in
        visit_stamp page stamp own.0 ((owned page own.0).copied.scanned.sent page stamp own.1);
    over = λ page stamp sent.
        let own = sent_own page stamp sent in
        let o = owned page own.0 in
        let low = o.left.over stamp (o.copied.scanned.sent page stamp own.1) in
        omega (arith, low, version_left page own.0);
    skips = λ page skipped.
        let own = skipped_own page skipped in
        let o = owned page own.0 in
        let scanned = o.copied.scanned.skipped page own.1 in
        (scanned.0, stored_written page o (o.left.fresh scanned.1), o.left.returned scanned.2);
    due = λ page real marked.
        let o = owned page real in
        elim (o.left.only_due marked) [
          | inl stored ↦ inl (stored_written page o stored)
          | inr returned ↦ elim (o.copied.scanned.returned page o.own (in_words_of page real) returned) [
            | inl skipped ↦ inr (inl (in_all skipped_by copiers (page / 64 % table.start.copiers) o.copier page o.there
                skipped))
            | inr deferred ↦ inr (inr (in_all deferred_by copiers (page / 64 % table.start.copiers) o.copier page
                o.there deferred))
          ]
        ];
    put_off = λ page deferred.
        let own = deferred_own page deferred in
        let o = owned page own.0 in
        o.left.returned (o.copied.scanned.deferred page own.1);
    caught_up = λ page real either.
        let o = owned page real in
        let known : IsTrue (in_words table.start.dirty page) ⊎ HasStored o.guest.facts page = elim either [
          | inl marked ↦ inl marked
          | inr written ↦ inr (written_stored page o written)
        ] in
        elim (o.left.caught_up known) [
          | inl marked ↦ inl marked
          | inr read ↦
              let version = slice_index closed.versions page in
              let sent : IsSentAt o.copier.state.log page version = o.copied.scanned.reads page version
              (last_is_visit o.copier.seat.facts.reads page version read) in
              inr (subst (λ (v : ℕ). Contains (round_of copiers).sent (page, v)) (version_left page real)
              (in_all sent_by copiers (page / 64 % table.start.copiers) o.copier (page, version) o.there sent))
        ];
    sent_order = subst (λ (pages : List ℕ). IsInScanOrder table.start.copiers pages) (sym (pages_by copiers))
        (in_scan_order table.start.copiers (λ (c : Copier). map (λ (s : ℕ × ℕ). s.0) (sent_by c)) 0 copiers
        (λ i copier there.
        let copied : IsCopied trace skip table streams rows copier i = each_got (IsCopied trace skip table streams rows)
        copiers i copier is.copied.each there in
        (copied.scanned.sent_rise, λ page sent. (listing i copier page there (inl sent)).1 ∙ zero_and i)));
    skipped_order = in_scan_order table.start.copiers skipped_by 0 copiers (λ i copier there.
        let copied : IsCopied trace skip table streams rows copier i = each_got (IsCopied trace skip table streams rows)
        copiers i copier is.copied.each there in (
          copied.scanned.skipped_rise,
          λ page skipped. (listing i copier page there (inr (inl skipped))).1
              ∙ zero_and i,
        ));
    deferred_order = in_scan_order table.start.copiers deferred_by 0 copiers (λ i copier there.
        let copied : IsCopied trace skip table streams rows copier i = each_got (IsCopied trace skip table streams rows)
        copiers i copier is.copied.each there in (
          copied.scanned.deferred_rise,
          λ page deferred. (listing i copier page there (inr (inr deferred))).1
              ∙ zero_and i,
        ));
    apart = λ page sent skipped.
        let stamp = place_of (round_of copiers).sent page sent in
        let own = sent_own page stamp.0 stamp.1 in
        let other = skipped_own page skipped in
        let o = owned page own.0 in
        o.copied.scanned.apart page (fst_in (sent_by o.copier) page stamp.0 own.1)
        (subst (λ (c : Copier). Contains (skipped_by c) page) (same_owner page other.0 own.0) other.1);
    deferred_apart = λ page deferred.
        let own = deferred_own page deferred in
        let o = owned page own.0 in
        let apart = o.copied.scanned.deferred_apart page own.1 in (
          (λ sent.
              let stamp = place_of (round_of copiers).sent page sent in
              let other = sent_own page stamp.0 stamp.1 in
              apart.0 (fst_in (sent_by o.copier) page stamp.0
              (subst (λ (c : Copier). Contains (sent_by c) (page, stamp.0)) (same_owner page other.0 own.0)
              other.1))),
          (λ skipped.
              let other = skipped_own page skipped in
              apart.1 (subst (λ (c : Copier). Contains (skipped_by c) page) (same_owner page other.0 own.0) other.1)),
        );
  }
