use Rattle.std.proofs.Common.{◌+◌, ◌*◌, ◌^◌, length, ap, ◌∙◌, arith}
use Rattle.std.proofs.lemmas.List.{length_push}
use Rattle.migration_model.specs.Trace.{IsGuestWrite}
use Rattle.migration_model.proofs.Pages.{length-put}
use Rattle.migration_model.specs.Memory.{bytes_put}
use Rattle.trace_codec.specs.Reading.{ReaderState}
use Rattle.guest_log.specs.Writes.{shown}
use Rattle.image_build.proofs.Replays.{replay-push, write_fits}
use Rattle.image_build.proofs.replaying.replay_reader.Goals as goal

pub write_over-requires : goal.write_over-requires
write_over-requires c =
    let shape = c.shape-shape.result in
    let before = c.loop.invariant in
    let version = c.loop.reader.version in
    let fits : IsGuestWrite version shape.shift shape.pages (shown c.in_ok-write.write) =
    rw (← before.shift, ← before.pages) c.in_ok-write.ensures.fits in
    omega (
      arith,
      write_fits version shape.shift shape.pages c.loop.memory.items (shown c.in_ok-write.write) before.len
          fits,
      c.loop.memory.ok.0,
    )

pub loop-preserved : goal.loop-preserved
loop-preserved c =
    let shape = c.shape-shape.result in
    let before = c.loop.invariant in
    let version = c.loop.reader.version in
    let write = shown c.in_ok-write.write in
    let fits : IsGuestWrite version shape.shift shape.pages write =
    rw (← before.shift, ← before.pages) c.in_ok-write.ensures.fits in
    let whole = write_fits version shape.shift shape.pages c.loop.memory.items write before.len fits in
    let read = c.in_ok-write.ensures.read in
    let writes = ap (λ (s : ReaderState). s.writes) read in
    record {
      bytes = ap (λ (s : ReaderState). s.bytes) read ∙ before.bytes;
      shift = ap (λ (s : ReaderState). s.shift) read ∙ before.shift;
      pages = ap (λ (s : ReaderState). s.pages) read ∙ before.pages;
      count = ap (λ (s : ReaderState). s.count) read ∙ before.count;
      read = omega (arith, ap length writes, length_push c.loop.reader.writes write, before.read);
      len = ap length c.write_over.ensures ∙ length-put c.loop.memory.items
          (write.page * 2 ^ shape.shift + write.offset) (bytes_put shape.shift write) whole ∙ before.len;
      made = rw writes (replay-push shape.shift shape.pages c.loop.memory.items c.write_over.new.memory.items
          c.loop.reader.writes write before.made c.write_over.ensures);
    }
