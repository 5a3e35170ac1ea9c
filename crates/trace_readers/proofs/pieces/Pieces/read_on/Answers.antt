use Rattle.std.proofs.Common.{◌<◌, ◌≡◌, ◌≤◌, [], ◌++◌, ap, length, take, vec_len, arith}
use Rattle.std.proofs.lemmas.List.{length-append, length-take}
use Rattle.trace_readers.specs.Pieces.{PiecesState}
use Rattle.trace_codec.proofs.Sources.{Consumes-nil, Consumes-then, long_refused}
use Rattle.trace_readers.proofs.OneMore.{early_refused}
use Rattle.trace_readers.proofs.pieces.Pieces.read_on.Goals as goal

pub loop-count-init : goal.loop-count-init
loop-count-init g c =
    let count = ap (λ (s : PiecesState). s.count) c.self.view_is in
    record {
      came = ([], Consumes-nil _, omega (arith, count));
      room = c.self.invariant;
      bound =
          omega (arith, count, c.requires.short);
      unfailed = c.requires.unfailed;
    }

pub loop-count-preserved : goal.loop-count-preserved
loop-count-preserved g c =
    let before = c.loop-count.invariant in
    let read = c.in-Some.ensures in
    let n = c.in-Some.more in
    let more = before.came.0 in
    let piece = take n c.read.new.buffer in
    let size : length piece ≡ n = omega (arith, read.bytes.0, length-take n c.read.new.buffer) in
    let low : n ≤ vec_len c.loop-count.self-inside.room = omega
    (arith, read.bytes.0, c.read.auto.buffer, c.deref_mut.ensures.len) in
    record {
      came = (
        more ++ piece,
        Consumes-then _ _ _ more piece before.came.1 read.bytes.1,
        omega (arith, before.came.2, size, length-append more piece),
      );
      room = before.room;
      bound = omega (arith, low, c.loop-count-test.true);
      unfailed = read.failed;
    }

pub returns-in-Some-eq0-clause-refused : goal.returns-in-Some-eq0-clause-refused
returns-in-Some-eq0-clause-refused g c old text came count refused =
    let before = c.loop-count.invariant in
    let more = before.came.0 in
    let read = c.in-Some-eq0.ensures in
    let n = c.in-Some-eq0.field-0 in
    let none : n ≡ 0 = c.in-Some-eq0.field-0-test in
    let piece = take n c.read.new.buffer in
    let size : length piece ≡ n = omega (arith, read.bytes.0, length-take n c.read.new.buffer) in
    let room : 0 < length c.read.new.buffer = omega (arith, c.read.auto.buffer, c.deref_mut.ensures.len, before.room) in
    early_refused old _ _ text (more ++ piece) c.args.cause came
    (Consumes-then _ _ _ more piece before.came.1 read.bytes.1) (read.bytes.2 none room)
    (omega (arith, count, before.came.2, size, none, length-append more piece, c.loop-count-test.true)) c.requires.some
    refused

pub returns-clause-refused : goal.returns-clause-refused
returns-clause-refused g c old text came count refused =
    let before = c.loop-count.invariant in
    let more = before.came.0 in
    long_refused old _ (text ++ more) (Consumes-then _ _ _ text more came before.came.1)
    (omega (arith, count, before.came.2, length-append text more, c.loop-count-test.false))
