use Rattle.std.proofs.Common.{◌≡◌, ◌^◌, length, map, take}
use Rattle.page_versions.specs.Copies.{put_copies, write_in}
use Rattle.page_versions.proofs.page_writes.put_spots.Given as goal

abbrev pub invariant-loop-spot : goal.invariant-loop-spot
invariant-loop-spot l = record {
  room : length l.bytes ≡ 2 ^ l.shape.shift;
  put : l.bytes ≡ put_copies l.shape.shift l.fn.bytes (map (write_in l.written) (take l.spot-index l.spots));
}
