use Rattle.std.proofs.Common.{◌≡◌, inl, inr, List, [], ◌∷◌, ◌++◌, Vec, Global, length, refl, sym, ap, subst, ◌∙◌}
use Rattle.std.specs.Prelude.{Some, slice_get}
use Rattle.std.specs.Vec.Iter.{into_iter_items}
use Rattle.std.proofs.lemmas.Option.{same_Some}
use Rattle.migration_model.specs.Parts.{GuestPart}
use Rattle.stream_lanes.specs.Ends.{IsSentOn, OutView}
use Rattle.stream_lanes.proofs.Grown.{at_push}
use Rattle.stream_receivers.specs.Receivers.{AreFrames, HasFrames, ReceiverView}
use Rattle.live_engine.proofs.FirstSeats.{next_there, one_longer, rest_of}
use Rattle.live_engine.proofs.receivers.finish_all.Goals as goal

pub finish-requires : goal.finish-requires
finish-requires c =
    let passed = c.loop-receiver.invariant.passed in
    c.requires.ends (length c.loop-receiver.yielded) c.in-Some-next.outs c.in-Some.receiver
    (next_there passed.0 (into_iter_items c.loop-receiver.columns) (into_iter_items c.next-in-loop-receiver.new.self)
    c.args.columns.items c.in-Some-next.outs (length c.loop-receiver.yielded)
    c.in-Some-next.ensures.items passed.2 passed.1)
    (next_there c.loop-receiver.yielded (into_iter_items c.loop-receiver.receiver-iterator)
    (into_iter_items c.next.new.self) c.args.receivers.items c.in-Some.receiver (length c.loop-receiver.yielded)
    c.in-Some.ensures.steps.0 c.loop-receiver.invariant.all refl)

pub loop-receiver-preserved : goal.loop-receiver-preserved
loop-receiver-preserved c =
    let front = c.loop-receiver.yielded in
    let receiver = c.in-Some.receiver in
    let outs = c.in-Some-next.outs in
    let parts = c.loop-receiver.parts.items in
    let part = c.in_ok-finish.field-0 in
    let passed = c.loop-receiver.invariant.passed in
    let items = c.in_ok-push.ensures.items in
    let outs_there : slice_get c.args.columns.items (length front) ≡ Some outs =
    next_there passed.0 (into_iter_items c.loop-receiver.columns) (into_iter_items c.next-in-loop-receiver.new.self)
    c.args.columns.items outs (length front) c.in-Some-next.ensures.items passed.2 passed.1 in
    let receiver_there : slice_get c.args.receivers.items (length front) ≡ Some receiver =
    next_there front (into_iter_items c.loop-receiver.receiver-iterator) (into_iter_items c.next.new.self)
    c.args.receivers.items receiver (length front) c.in-Some.ensures.steps.0
    c.loop-receiver.invariant.all refl in
    record {
      can_next = tt;
      is_finite = tt;
      all = rest_of front (into_iter_items c.loop-receiver.receiver-iterator) (into_iter_items c.next.new.self)
          c.args.receivers.items receiver c.in-Some.ensures.steps.0 c.loop-receiver.invariant.all;
      passed = (
        passed.0 ++ outs ∷ [],
        one_longer passed.0 outs front receiver (passed.0 ++ outs ∷ []) refl passed.1,
        rest_of passed.0 (into_iter_items c.loop-receiver.columns) (into_iter_items c.next-in-loop-receiver.new.self)
            c.args.columns.items outs c.in-Some-next.ensures.items passed.2,
      );
      count = one_longer parts part front receiver c.push.new.self.items items c.loop-receiver.invariant.count;
      each = λ stream other_outs other other_part column_there there part_there.
          elim (at_push parts part other_part stream
          (ap (λ (ps : List GuestPart). slice_get ps stream) (sym items) ∙ part_there)) [
            | inl earlier ↦ c.loop-receiver.invariant.each stream other_outs other other_part column_there there earlier
            | inr last ↦
                let here : stream ≡ length front = last.0 ∙ c.loop-receiver.invariant.count in
                let same_outs : outs ≡ other_outs = same_Some outs other_outs
                (sym outs_there ∙ ap (slice_get c.args.columns.items) (sym here) ∙ column_there) in
                let same : receiver ≡ other = same_Some receiver other
                (sym receiver_there ∙ ap (slice_get c.args.receivers.items) (sym here) ∙ there) in
                subst (λ (r : ReceiverView). AreFrames r.part.shape (IsSentOn other_outs.items)
                → HasFrames r.part.shape (IsSentOn other_outs.items) other_part) same
                (subst (λ (o : Vec OutView Global). AreFrames receiver.part.shape (IsSentOn o.items)
                → HasFrames receiver.part.shape (IsSentOn o.items) other_part) same_outs
                (subst (λ (p : GuestPart). AreFrames receiver.part.shape (IsSentOn outs.items)
                → HasFrames receiver.part.shape (IsSentOn outs.items) p) last.1 c.in_ok-finish.ensures.received))
          ];
    }
