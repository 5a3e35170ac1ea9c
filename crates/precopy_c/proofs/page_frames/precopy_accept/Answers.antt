use Rattle.std.proofs.Common.{refl, sym, arith}
use Rattle.page_message.specs.Shapes.{shape_of}
use Rattle.c_answers.specs.Settings.{shape_in}
use Rattle.c_answers.proofs.Streams.{flat_never, flat_only, flat_spelled}
use Rattle.precopy_c.proofs.page_frames.precopy_accept.Goals as goal

pub returns-in-Ok-take_frames-clause-given : goal.returns-in-Ok-take_frames-clause-given
returns-in-Ok-take_frames-clause-given c =
    let accepted = c.in-Ok.ensures.accepted in
    let takes = rw accepted.0 at c.in-Ok-take_frames.ensures.taken in
    let spelled = flat_spelled (shape_in c.args.sizes.now) c.args.memory.now c.take_frames.new.memory c.args.pages.now
    c.take_frames.new.states c.args.stream.now c.take_frames.new.taken takes in (
      λ is. (accepted.1, accepted.2, spelled.0, spelled.1),
      λ all. refl,
    )

pub returns-in-Ok-take_frames-clause-all : goal.returns-in-Ok-take_frames-clause-all
returns-in-Ok-take_frames-clause-all c frames is flat spells =
    let takes = rw c.in-Ok.ensures.accepted.0 at c.in-Ok-take_frames.ensures.taken in
    flat_only (shape_in c.args.sizes.now) c.args.memory.now c.take_frames.new.memory c.args.pages.now
    c.take_frames.new.states c.args.stream.now c.take_frames.new.taken frames is takes spells

pub returns-in-Err-take_frames-clause-given : goal.returns-in-Err-take_frames-clause-given
returns-in-Err-take_frames-clause-given c =
    let shape = shape_of c.in-Ok.shape in
    let same = sym c.in-Ok.ensures.accepted.0 in
    let stops = c.in-Err-take_frames.ensures.refused in (
      λ is. absurd (omega (arith, is, c.number.ensures.some)),
      λ all. absurd (flat_never shape c.args.memory.now c.take_frames.new.memory c.args.pages.now
          c.take_frames.new.states c.args.stream.now c.take_frames.new.taken stops.rest
          c.in-Err-take_frames.error all.2 (rw same at all.0) stops.takes stops.some stops.refused
          (rw same at all.3)),
    )

pub returns-in-Err-take_frames-clause-all : goal.returns-in-Err-take_frames-clause-all
returns-in-Err-take_frames-clause-all c frames is flat spells =
    let shape = shape_of c.in-Ok.shape in
    let same = sym c.in-Ok.ensures.accepted.0 in
    let stops = c.in-Err-take_frames.ensures.refused in
    absurd (flat_never shape c.args.memory.now c.take_frames.new.memory c.args.pages.now c.take_frames.new.states
    c.args.stream.now c.take_frames.new.taken stops.rest
    c.in-Err-take_frames.error frames (rw same at is) stops.takes stops.some stops.refused (rw same at spells))
