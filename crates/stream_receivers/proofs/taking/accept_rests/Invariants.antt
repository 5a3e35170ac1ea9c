use Rattle.std.proofs.Common.{◌≡◌, ◌++◌, map}
use Rattle.std.specs.Prelude.{Some, IfSome}
use Rattle.std.specs.Iterator.Adapters.{zip_first, zip_second}
use Rattle.std.specs.Vec.Iter.{into_iter_items}
use Rattle.stream_receivers.specs.Held.{IsHeld}
use Rattle.stream_receivers.specs.Receivers.{AreEnds}
use Rattle.stream_receivers.proofs.Taken.{IsCome}
use Rattle.stream_receivers.proofs.taking.accept_rests.Given as goal

abbrev pub invariant-loop-out : goal.invariant-loop-out
invariant-loop-out l = record {
  all : map (λ p. p.0) l.yielded ++ into_iter_items (zip_first l.out-iterator) ≡ l.fn.outs.items;
  ends : AreEnds (into_iter_items (zip_first l.out-iterator)) (into_iter_items (zip_second l.out-iterator));
  shape : l.part.shape ≡ l.fn.part.shape;
  kept : IfSome l.fn.refusal (λ e. l.refusal ≡ Some e);
  held : IsHeld l.fn.part.shape (IsCome (map (λ p. p.0) l.yielded) (into_iter_items (zip_second l.out-iterator))) l.part
      l.refusal;
}
