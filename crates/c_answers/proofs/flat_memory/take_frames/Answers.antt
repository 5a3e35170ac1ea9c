use Rattle.std.proofs.Common.{◌∙◌, arith}
use Rattle.page_message.specs.Shapes.{shape_of}
use Rattle.collector.proofs.Taken.{some_size}
use Rattle.c_answers.specs.FlatMemory.{IsFlat}
use Rattle.c_answers.proofs.Flat.{TakesFlat-more}
use Rattle.c_answers.proofs.flat_memory.take_frames.Goals as goal

pub loop-rest-smaller : goal.loop-rest-smaller
loop-rest-smaller c =
    let shape = shape_of c.args.shape.now in
    let some = some_size shape c.loop-rest.rest.now c.in_ok-view.size c.in_ok-view.view c.in_ok-view.ensures.found in
    omega (arith, some, c.in_ok-view.ensures.within, c.split_at.ensures.back_len)

pub loop-rest-preserved : goal.loop-rest-preserved
loop-rest-preserved c =
    let shape = shape_of c.args.shape.now in
    let before = c.loop-rest.invariant in
    let some = some_size shape c.loop-rest.rest.now c.in_ok-view.size c.in_ok-view.view c.in_ok-view.ensures.found in
    let flat : IsFlat shape c.accept_view.new.memory c.accept_view.new.states = record {
      bytes_are = c.accept_view.auto.memory ∙ before.flat.bytes_are;
      states_are = c.accept_view.auto.states ∙ before.flat.states_are;
    } in
    record {
      takes = rw c.split_at.ensures.back
          (TakesFlat-more shape c.args.memory.now c.loop-rest.memory c.accept_view.new.memory c.args.states.now
          c.loop-rest.states c.accept_view.new.states c.args.bytes.now c.loop-rest.rest.now
          c.loop-rest.taken c.in_ok-view.view c.in_ok-view.size before.takes c.in_ok-view.ensures.found
          c.accept_view.ensures.kept c.accept_view.ensures.others c.accept_view.ensures.came
          c.accept_view.ensures.later flat c.in_ok-view.ensures.within);
      flat = flat;
      frames = omega (arith, before.frames, some);
      bytes = omega (arith, before.bytes, c.in_ok-view.ensures.within, c.split_at.ensures.back_len);
    }
