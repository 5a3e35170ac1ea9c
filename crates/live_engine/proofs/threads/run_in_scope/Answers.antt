use Rattle.std.proofs.Common.{ℕ, length, ap, subst, ◌∙◌, arith}
use Rattle.std.specs.Prelude.{IfOk}
use Rattle.std.proofs.lemmas.List.FromFn.{length-map-range_with_len}
use Rattle.dirty_words.specs.Seats.{guest_view, copy_view}
use Rattle.dirty_words.specs.Facts.{first_guest, first_copier}
use Rattle.live_tasks.specs.Copies.{HasCopied}
use Rattle.live_engine.specs.Seated.{CopyTask, ReplayTask, IsReplayed}
use Rattle.live_engine.proofs.Each.{each_from, each_kept, each_ok, from_ok}
use Rattle.live_engine.proofs.threads.run_in_scope.Goals as goal

pub returns : goal.returns
returns g c =
    let table = c.args.round.now.table.now in
    let started = c.start_crew-started.ensures in
    let ok = c.in_ok-started.was in
    let seats = c.in_ok-guests.guests.items in
    let seat_count = c.in_ok-guests.ensures.count in
    let seats_kept = c.in_ok-guests.ensures.each in
    let copied = c.in_ok-copied.field-0.items in
    let copied_count = c.in_ok-copied.ensures.count in
    let copied_kept = c.in_ok-copied.ensures.each in
    record {
      guests = record {
        count = seat_count ∙ from_ok _ _ ok started.guests ∙ ap length c.requires.crew.guests
            ∙ length-map-range_with_len (λ (n : ℕ). guest_view table.id (first_guest table.start n)) 0
            table.start.guests;
        each = each_kept _ _ _ _ seats seat_count (from_ok _ _ ok started.replays)
            (each_from _ seats (λ i d low. let k = (seats_kept i d (omega (arith, low, seat_count))).1 in
            (k.handle, k.handle_is, k.kept)))
            (λ h guest i told kept. subst (λ (t : ReplayTask). IsReplayed t.trace t.table t.from t.to t.number guest)
            told kept);
      };
      copiers = record {
        count = c.in_ok-copiers.ensures.count ∙ copied_count ∙ from_ok _ _ ok started.copiers
            ∙ ap length c.requires.crew.copiers
            ∙ length-map-range_with_len (λ (n : ℕ). copy_view table.id (first_copier table.start n)) 0
            table.start.copiers;
        each = each_ok _ c.in_ok-copiers.copiers.items _ c.in_ok-copiers.ensures.same
            (each_kept _ _ _ _ copied copied_count (from_ok _ _ ok started.copies)
            (each_from _ copied (λ i d low. let k = (copied_kept i d (omega (arith, low, copied_count))).1 in
            (k.handle, k.handle_is, k.kept)))
            (λ h r i told kept. subst (λ (t : CopyTask). IfOk r
            (λ copier. HasCopied t.trace t.skip t.table t.number t.streams t.outs copier.seat copier.state))
            told kept));
      };
    }
