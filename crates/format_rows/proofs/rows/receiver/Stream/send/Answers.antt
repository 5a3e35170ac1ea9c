use Rattle.std.proofs.Common.{refl}
use Rattle.stream_receivers.proofs.Ends.{same_ends}
use Rattle.format_rows.proofs.rows.receiver.Stream.send.Goals as goal

pub invariant_of-self : goal.invariant_of-self
invariant_of-self c = record {
  are_ends = same_ends c.args.self.now.outs.items c.send.new.outs.items c.args.self.now.receiver.ends
      c.args.self.now.receiver.ends c.args.self.now.are_ends c.send.ensures refl;
}
