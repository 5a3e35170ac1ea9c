use Rattle.std.proofs.Common.{◌≡◌, ◌++◌, map}
use Rattle.std.specs.Vec.Iter.{into_iter_items}
use Rattle.live_engine.specs.Receiving.{identity_of}
use Rattle.live_engine.proofs.receivers.start_receivers.Given as goal

abbrev pub invariant-loop-receiver : goal.invariant-loop-receiver
invariant-loop-receiver g l = record {
  can_next : (goal.iterator-loop-receiver g).can_next l.receiver-iterator;
  is_finite : (goal.iterator-loop-receiver g).is_finite l.receiver-iterator;
  rest : l.yielded ++ into_iter_items l.receiver-iterator ≡ l.fn.receivers.items;
  promised : map (λ h. identity_of h.promise.receiver.value) l.handles.items ≡ map identity_of l.yielded;
}
