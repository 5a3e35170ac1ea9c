use Rattle.std.proofs.Common.{◌≡◌, ◌%◌, map, take}
use Rattle.stream_split.specs.Deals.{turn_with, streams_of}
use Rattle.stream_split.proofs.splitting.split.Given as goal

abbrev pub invariant-loop-frame : goal.invariant-loop-frame
invariant-loop-frame l = record {
  turn : l.dealer ≡ turn_with l.streams (l.frame-index % l.streams);
  held : map (λ s. s.items) l.outs.items ≡ streams_of l.streams (take l.frame-index l.frame-items);
}
