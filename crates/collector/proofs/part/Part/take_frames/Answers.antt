use Rattle.std.proofs.Common.{◌≡◌, length, sym, subst, ◌∙◌, arith}
use Rattle.std.proofs.lemmas.Bool.{eqb-false}
use Rattle.migration_model.specs.Frames.{GuestShape}
use Rattle.migration_model.specs.Parts.{GuestPart}
use Rattle.page_message.specs.Refusals.{RefusesFrame}
use Rattle.collector.specs.Streams.{TakesFrames}
use Rattle.collector.proofs.Taken.{Takes-more, shape-taken, stopped}
use Rattle.collector.proofs.part.Part.take_frames.Goals as goal

pub loop-rest-preserved : goal.loop-rest-preserved
loop-rest-preserved c =
    let before = c.loop-rest.invariant in
    record {
      takes = rw c.split_at.ensures.back
          (Takes-more _ c.loop-rest.self c.accept_front.new.self c.args.bytes.now c.loop-rest.rest.now _
          c.loop-rest.count before.takes c.in-Ok.ensures.taken);
      bound = omega (arith, before.bound, c.split_at.ensures.back_len, c.in-Ok.ensures.some);
    }

pub returns-in-Err-clause-refused : goal.returns-in-Err-clause-refused
returns-in-Err-clause-refused c =
    let before = c.loop-rest.invariant in
    let rest = c.loop-rest.rest.now in
    let filled : length rest ≡ 0 → ⊥ = eqb-false _ _ (sym c.is_empty.ensures ∙ c.loop-rest-test.true) in
    let takes = subst (λ (p : GuestPart). TakesFrames c.args.self.now p c.args.bytes.now c.loop-rest.count rest)
    (sym c.in-Err.ensures.unchanged) before.takes in
    stopped _ _ c.args.bytes.now rest c.loop-rest.count c.in-Err.error takes (omega (arith, filled))
    (subst (λ (s : GuestShape). RefusesFrame s rest c.in-Err.error)
    (shape-taken _ c.loop-rest.self c.args.bytes.now c.loop-rest.count rest before.takes) c.in-Err.ensures.refused)
