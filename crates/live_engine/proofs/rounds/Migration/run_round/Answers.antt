use Rattle.std.proofs.Common.{◌≡◌, ℕ, leb, ◌&&◌, ◌∷◌, [], ◌++◌, List, length, sym, ap, subst, ◌∙◌, arith}
use Rattle.std.specs.List.{All}
use Rattle.std.proofs.lemmas.List.{length-map}
use Rattle.std.proofs.lemmas.List.FromFn.{length-map-range_with_len}
use Rattle.migration_model.specs.Live.{LiveRound, LiveRounds}
use Rattle.migration_model.specs.Rounds.{PlannedRound}
use Rattle.dirty_core.specs.Start.{Start, IsStart, start_with}
use Rattle.dirty_words.specs.Facts.{first_copier}
use Rattle.dirty_words.specs.Seats.{ClosedView, copy_view}
use Rattle.live_tasks.specs.declared.copier.Copier.{Copier}
use Rattle.live_tasks.specs.CopierStates.{CopierStateView, IsCopierState}
use Rattle.live_tasks.specs.Replays.{OpensAt}
use Rattle.live_engine.specs.Joining.{AreJoined, HavePosted, IsLiveRound, lanes_of}
use Rattle.live_engine.specs.Lists.{lists_of, rows_of}
use Rattle.live_engine.specs.Seated.{AreReplayed}
use Rattle.live_engine.proofs.Rounding.{idle_guests, idle_copiers, all_states, opens_so, round_done}
use Rattle.live_engine.proofs.Running.{law_next, joined_next}
use Rattle.live_engine.proofs.rounds.Migration.run_round.Goals as goal

pub run_crew-requires-clause-crew : goal.run_crew-requires-clause-crew
run_crew-requires-clause-crew g c κs within =
    let table = c.in_ok-table.field-0.table in
    let count : length c.in_ok-table.field-0.copiers.items ≡ table.start.copiers =
    ap length c.in_ok-table.ensures.copiers ∙ length-map-range_with_len
    (λ (n : ℕ). copy_view table.id (first_copier table.start n)) 0 table.start.copiers in
    record {
      guests = c.in_ok-table.ensures.guests;
      copiers = c.in_ok-table.ensures.copiers;
      count = c.requires.under_way.states_are ∙ sym (count ∙ ap (λ (s : Start). s.copiers)
          (c.in_ok-table.ensures.table ∙ c.in-Some.ensures.given));
      states = c.requires.under_way.each;
    }

pub close-closed-requires-clause-guests : goal.close-closed-requires-clause-guests
close-closed-requires-clause-guests g c =
    idle_guests (g.W.WriteLog.trace c.args.self.now.trace.now) c.in_ok-table.field-0.table c.planned.inside.from
    c.planned.inside.to c.in_ok-guests.field-0.guests.items c.in_ok-guests.ensures.guests

pub close-closed-requires-clause-copiers : goal.close-closed-requires-clause-copiers
close-closed-requires-clause-copiers g c =
    idle_copiers (g.W.WriteLog.trace c.args.self.now.trace.now) c.may_skip.result c.in_ok-table.field-0.table
    c.args.self.now.team.streams (rows_of c.args.progress.states.items) c.in_ok-guests.field-0.copiers.items
    c.in_ok-seats.seats.items c.in_ok-seats.ensures.seats c.in_ok-guests.ensures.copiers

pub returns : goal.returns
returns g c =
    let trace = g.W.WriteLog.trace c.args.self.now.trace.now in
    let team = c.args.self.now.team in
    let plan = c.args.planned.now in
    let skip = c.may_skip.result in
    let table = c.in_ok-table.field-0.table in
    let old = c.args.progress.closed in
    let new = c.close-closed.result in
    let first = c.args.progress.states.items in
    let states = c.in_ok-seats.states.items in
    let start_is : table.start ≡ start_with old.versions old.dirty team.replayers team.copiers =
    c.in_ok-table.ensures.table ∙ c.in-Some.ensures.given
    ∙ ap (λ (v : ClosedView). start_with v.versions v.dirty team.replayers team.copiers) c.closed.view_is in
    let opens : OpensAt trace plan.from table.start = opens_so trace plan.from table.start old team.replayers
    team.copiers start_is c.requires.under_way.size c.requires.joined.2.versions in
    let replayed : AreReplayed trace table plan.from plan.to c.in_ok-guests.field-0.guests.items =
    subst (λ (p : PlannedRound). AreReplayed trace table p.from p.to c.in_ok-guests.field-0.guests.items)
    c.planned.view_is c.in_ok-guests.ensures.guests in
    let done : IsLiveRound trace skip team.copiers old.dirty plan.from plan.to new (lists_of states)
    × HavePosted trace team.copiers (lists_of states) (rows_of first) (rows_of states) =
    round_done trace skip table plan.from plan.to team.streams team.replayers team.copiers first
    c.in_ok-guests.field-0.guests.items c.in_ok-guests.field-0.copiers.items
    c.in_ok-seats.seats.items states old new start_is
    (subst (λ (s : Start). IsStart s) (sym c.in_ok-table.ensures.table) c.in_ok-table.ensures.start) c.requires.span
    opens
    c.requires.under_way.states_are replayed c.in_ok-guests.ensures.copiers c.in_ok-seats.ensures.seats
    c.in_ok-seats.ensures.states
    c.close-closed.ensures.pages c.close-closed.ensures.next in
    let listed : c.push.new.self.items ≡ c.args.progress.rounds.items ++ lists_of states ∷ [] =
    c.in_ok-push.ensures.items ∙ ap (λ (r : LiveRound). c.args.progress.rounds.items ++ r ∷ [])
    c.in_ok-listed.ensures.lists in
    record {
      under_way = record {
        next = subst (λ (s : Start). IsStart (start_with new.versions new.dirty s.guests s.copiers)) start_is
            c.close-closed.ensures.next;
        size = c.close-closed.ensures.left.left.versions ∙ ap (λ (s : Start). length s.places) start_is
            ∙ c.requires.under_way.size;
        states_are = ap length (c.in_ok-listed.ensures.states ∙ c.in_ok-seats.ensures.states)
            ∙ length-map c.in_ok-guests.field-0.copiers.items (λ (c : Copier). c.state)
            ∙ c.in_ok-guests.ensures.copiers.count ∙ ap (λ (s : Start). s.copiers) start_is;
        each = subst (All (IsCopierState trace team.streams)) (sym c.in_ok-listed.ensures.states)
            (all_states trace skip table team.streams (rows_of first) c.in_ok-guests.field-0.copiers.items states
            c.in_ok-seats.ensures.states c.in_ok-guests.ensures.copiers);
      };
      lanes = ap (λ (ds : List CopierStateView). lanes_of (rows_of ds)) c.in_ok-listed.ensures.states ∙ done.1.lanes;
      joined = λ base before joined. subst (λ (rounds : List LiveRound). AreJoined trace base team.copiers plan.to
          (before ++ plan ∷ []) rounds new (rows_of c.in_ok-listed.states.items)) (sym listed)
          (subst (λ (ds : List CopierStateView). AreJoined trace base team.copiers plan.to (before ++ plan ∷ [])
          (c.args.progress.rounds.items ++ lists_of states ∷ []) new (rows_of ds))
          (sym c.in_ok-listed.ensures.states)
          (joined_next trace base skip team.copiers before c.args.progress.rounds.items plan (lists_of states) old new
          (rows_of first) (rows_of states) c.requires.span joined done.0 done.1));
      law = λ base lane before capacity joined law. subst
          (λ (rounds : List LiveRound). LiveRounds trace base c.args.skip team.copiers lane (before ++ plan ∷ [])
          rounds) (sym listed)
          (law_next trace base c.args.skip skip team.copiers lane before c.args.progress.rounds.items plan
          (lists_of states) old new (rows_of first) (rows_of states)
          (c.may_skip.ensures ∙ ap (λ (n : ℕ). c.args.skip && leb 1 n)
          (let len : c.len-number.result ≡ length c.args.progress.rounds.items = grind
          (arith, c.len-number.ensures) in len))
          c.requires.span joined done.0 done.1 capacity law);
    }
