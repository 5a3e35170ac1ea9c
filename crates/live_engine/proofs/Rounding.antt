-- A table is closed when all its threads have ended.
use Rattle.std.proofs.Common.{◌≡◌, ℕ, ◌<◌, ◌≤◌, inl, inr, Bool, List, length, map, get_or, sym, ap, subst, ◌∙◌, arith}
use Rattle.std.specs.Prelude.{Some, slice_get, slice_index}
use Rattle.std.specs.List.{All, flat_map}
use Rattle.std.proofs.lemmas.List.{get_or-map, length-map}
use Rattle.std.proofs.lemmas.List.Folds.{flat_map-map}
use Rattle.std.proofs.lemmas.Simd.{map-map}
use Rattle.std.proofs.lemmas.Option.{slice_get-get_or}
use Rattle.migration_model.specs.Trace.{GuestTrace}
use Rattle.migration_model.specs.Versions.{version_before}
use Rattle.migration_model.specs.Live.{LiveRound, live_round_with}
use Rattle.dirty_core.specs.Start.{Start, IsStart, start_with}
use Rattle.dirty_words.specs.Closing.{AllGuests, AllCopiers, EachPageLeft}
use Rattle.dirty_words.specs.Facts.{HoldsNone}
use Rattle.dirty_words.specs.Seats.{TableView, GuestView, CopyView, ClosedView, copy_table}
use Rattle.live_tasks.specs.declared.copier.Copier.{Copier}
use Rattle.live_tasks.specs.CopierStates.{CopierStateView, IsCopierState}
use Rattle.stream_lanes.specs.Ends.{OutView}
use Rattle.live_tasks.specs.Replays.{OpensAt}
use Rattle.live_engine.specs.Seated.{IsReplayed, AreReplayed, IsCopied, AreCopied}
use Rattle.live_engine.specs.Joining.{HavePosted, IsLiveRound}
use Rattle.live_engine.specs.Lists.{lists_of, rows_of}
use Rattle.live_engine.proofs.Each.{each_got, made_of, pick}
use Rattle.live_engine.proofs.Leaving.{IsClosedRound, listing, round_left, round_of}
use Rattle.live_engine.proofs.Posted.{have_posted}

pub idle_guests : (trace : GuestTrace) (table : TableView) (from to : ℕ) (guests : List GuestView)
    → AreReplayed trace table from to guests → AllGuests table guests
idle_guests trace table from to guests is = record {
  count = is.count;
  each = λ number guest there.
      let r : IsReplayed trace table from to number guest = each_got
      (λ (g : GuestView) (n : ℕ). IsReplayed trace table from to n g) guests number guest is.each there in
      record { table_is = r.table_is; number_is = r.number_is; pending = r.replayed.pending };
}

pub idle_copiers : (trace : GuestTrace) (skip : Bool) (table : TableView) (streams : ℕ) (rows : List (List OutView))
    (copiers : List Copier) (seats : List CopyView) → seats ≡ map (λ (c : Copier). c.seat) copiers
    → AreCopied trace skip table streams rows copiers → AllCopiers table seats
idle_copiers trace skip table streams rows copiers seats same is = record {
  count = ap length same ∙ length-map copiers (λ (c : Copier). c.seat) ∙ is.count;
  each = λ number seat there.
      let found = made_of (λ (c : Copier). c.seat) copiers number seat
      (ap (λ (s : List CopyView). slice_get s number) (sym same) ∙ there) in
      let c : IsCopied trace skip table streams rows found.0 number = each_got (IsCopied trace skip table streams rows)
      copiers number found.0 is.each found.1 in
      record {
        table_is = ap copy_table (sym found.2) ∙ c.table_is;
        number_is = ap (λ (s : CopyView). s.facts.number) (sym found.2) ∙ c.number_is;
        held = subst (λ (s : CopyView). HoldsNone s.facts) found.2 c.held;
      };
}

all_made : {X Y : Type 0} (f : X → Y) (P : Y → Type 0) (xs : List X) (ys : List Y) → ys ≡ map f xs
    → ((i : ℕ) (x : X) → slice_get xs i ≡ Some x → P (f x)) → All P ys
all_made f P xs ys same each k d low =
    let len : length ys ≡ length xs = ap length same ∙ length-map xs f in
    let inside : k < length xs = omega (arith, low, len) in
    let p = pick xs k inside in
    let at : get_or ys k d ≡ f p.0 = ap (λ l. get_or l k d) same ∙ get_or-map f xs k p.0 d inside ∙ ap f (sym p.1) in
    subst P (sym at) (each k p.0 (slice_get-get_or xs k p.0 inside ∙ ap Some (sym p.1)))

pub all_states : (trace : GuestTrace) (skip : Bool) (table : TableView) (streams : ℕ) (rows : List (List OutView))
    (copiers : List Copier) (states : List CopierStateView) → states ≡ map (λ (c : Copier). c.state) copiers
    → AreCopied trace skip table streams rows copiers → All (IsCopierState trace streams) states
all_states trace skip table streams rows copiers states same is =
    all_made (λ (c : Copier). c.state) (IsCopierState trace streams) copiers states same
    (λ i c there. (each_got (IsCopied trace skip table streams rows) copiers i c is.each there).is_state)

lists_are : (copiers : List Copier) (states : List CopierStateView) → states ≡ map (λ (c : Copier). c.state) copiers
    → round_of copiers ≡ lists_of states
lists_are copiers states same = λ i. live_round_with
    (sym (ap (flat_map (λ (d : CopierStateView). d.log.sent)) same
    ∙ flat_map-map (λ (d : CopierStateView). d.log.sent) (λ (c : Copier). c.state) copiers) i)
    (sym (ap (flat_map (λ (d : CopierStateView). d.log.skipped)) same
    ∙ flat_map-map (λ (d : CopierStateView). d.log.skipped) (λ (c : Copier). c.state) copiers) i)
    (sym (ap (flat_map (λ (d : CopierStateView). d.log.deferred)) same
    ∙ flat_map-map (λ (d : CopierStateView). d.log.deferred) (λ (c : Copier). c.state) copiers) i)

pub opens_so : (trace : GuestTrace) (from : ℕ) (start : Start) (closed : ClosedView) (guests copiers : ℕ) → start
    ≡ start_with closed.versions closed.dirty guests copiers
    → length closed.versions ≡ trace.pages → ((page : ℕ) → page < trace.pages → slice_index closed.versions page
    ≡ version_before trace page from) → OpensAt trace from start
opens_so trace from start closed guests copiers same size versions =
    subst (λ (s : Start). OpensAt trace from s) (sym same) (record { pages = size; places = versions })

-- all that is known when the table is closed
pub closed_is : (trace : GuestTrace) (skip : Bool) (table : TableView) (from to streams : ℕ)
    (rows : List (List OutView)) (guests : List GuestView) (copiers : List Copier) (seats : List CopyView)
    (after : ClosedView) → from ≤ to → OpensAt trace from table.start → IsStart table.start
    → AreReplayed trace table from to guests → AreCopied trace skip table streams rows copiers
    → seats ≡ map (λ (c : Copier). c.seat) copiers → EachPageLeft table.start guests seats after
    → IsStart (start_with after.versions after.dirty table.start.guests table.start.copiers)
    → IsClosedRound trace skip table from to streams rows guests copiers after
closed_is trace skip table from to streams rows guests copiers seats after span opens start replayed copied seats_are
    left next = record {
      span = span;
      opens = opens;
      is_start = start;
      replayed = replayed;
      copied = copied;
      left = subst (λ (s : List CopyView). EachPageLeft table.start guests s after) seats_are left;
      next = next;
    }

pub round_is : (trace : GuestTrace) (skip : Bool) (table : TableView) (from to streams replayers workers : ℕ)
    (rows : List (List OutView)) (guests : List GuestView) (copiers : List Copier)
    (states : List CopierStateView) (before after : ClosedView)
    → IsClosedRound trace skip table from to streams rows guests copiers after
    → table.start ≡ start_with before.versions before.dirty replayers workers → states
    ≡ map (λ (c : Copier). c.state) copiers
    → IsLiveRound trace skip workers before.dirty from to after (lists_of states)
round_is trace skip table from to streams replayers workers rows guests copiers states before after closed same
    states_are =
    subst (λ (r : LiveRound). IsLiveRound trace skip workers before.dirty from to after r)
    (lists_are copiers states states_are)
    (subst (λ (s : Start). IsLiveRound trace skip s.copiers s.dirty from to after (round_of copiers)) same
    (round_left trace skip table from to streams rows guests copiers after closed))

-- what the copiers of a round sent on their lanes
pub posts_are : (trace : GuestTrace) (skip : Bool) (table : TableView) (from to streams : ℕ)
    (rows : List (List OutView)) (guests : List GuestView) (copiers : List Copier)
    (states : List CopierStateView) (after : ClosedView)
    → IsClosedRound trace skip table from to streams rows guests copiers after → length rows ≡ length copiers
    → states ≡ map (λ (c : Copier). c.state) copiers
    → HavePosted trace table.start.copiers (lists_of states) rows (rows_of states)
posts_are trace skip table from to streams rows guests copiers states after is count same =
    let posted = have_posted trace skip table streams rows copiers is.copied count
    (λ i copier page there either. elim either [
      | inl sent ↦ (listing trace skip table from to streams rows guests copiers after is i copier page there
          (inl sent)).1
      | inr deferred ↦ (listing trace skip table from to streams rows guests copiers after is i copier page there
          (inr (inr deferred))).1
    ]) in
    let rows_are : map (λ (c : Copier). c.state.outs) copiers ≡ rows_of states =
    sym (ap rows_of same ∙ map-map (λ (d : CopierStateView). d.outs) (λ (c : Copier). c.state) copiers) in
    subst (λ (r : LiveRound). HavePosted trace table.start.copiers r rows (rows_of states))
    (lists_are copiers states same)
    (subst (HavePosted trace table.start.copiers (round_of copiers) rows) rows_are posted)

-- what a round did and left, and what its copiers posted, when all its threads have ended and its table is closed
pub round_done : (trace : GuestTrace) (skip : Bool) (table : TableView) (from to streams replayers workers : ℕ)
    (first : List CopierStateView) (guests : List GuestView)
    (copiers : List Copier) (seats : List CopyView) (states : List CopierStateView) (before after : ClosedView)
    → table.start ≡ start_with before.versions before.dirty replayers workers → IsStart table.start → from ≤ to
    → OpensAt trace from table.start → length first ≡ workers
    → AreReplayed trace table from to guests → AreCopied trace skip table streams (rows_of first) copiers → seats
    ≡ map (λ (c : Copier). c.seat) copiers
    → states ≡ map (λ (c : Copier). c.state) copiers → EachPageLeft table.start guests seats after
    → IsStart (start_with after.versions after.dirty table.start.guests table.start.copiers)
    → IsLiveRound trace skip workers before.dirty from to after (lists_of states)
    × HavePosted trace workers (lists_of states) (rows_of first) (rows_of states)
round_done trace skip table from to streams replayers workers first guests copiers seats states before after start_is
    start span opens count replayed copied seats_are states_are left next =
    let closed = closed_is trace skip table from to streams (rows_of first) guests copiers seats after span opens start
    replayed copied seats_are left next in
    let workers_are : table.start.copiers ≡ workers = ap (λ (s : Start). s.copiers) start_is in (
      round_is trace skip table from to streams replayers workers (rows_of first) guests copiers states before after
          closed start_is states_are,
      subst (λ (n : ℕ). HavePosted trace n (lists_of states) (rows_of first) (rows_of states)) workers_are
          (posts_are trace skip table from to streams (rows_of first) guests copiers states after closed
          (length-map first (λ (d : CopierStateView). d.outs) ∙ count ∙ sym (copied.count ∙ workers_are)) states_are),
    )
