use Rattle.std.proofs.Common.{◌≡◌, ◌≢◌, ◌≤◌, ◌-◌, length, refl, sym, subst, ◌∙◌, arith}
use Rattle.std.proofs.lemmas.Bool.{eqb-false}
use Rattle.std.proofs.lemmas.Result.{IfErr-weaker}
use Rattle.page_message.specs.declared.error.FrameError.TheVariants.{Short}
use Rattle.stream_check.specs.declared.faults.FrameCause.TheVariants.{Refused}
use Rattle.stream_check.specs.Faults.{IsWrongFront}
use Rattle.stream_check.specs.Checked.{Checked, StopsAt, TakesRight}
use Rattle.stream_check.proofs.Fronts.{Takes-more, Takes-nothing, shape_taken, stops_at}
use Rattle.stream_check.proofs.checker.StreamChecker.take.Goals as goal

pub loop-rest-init : goal.loop-rest-init
loop-rest-init g c = record {
  takes = Takes-nothing (g.W.WriteLog.trace c.args.trace.now) c.args.self.now c.args.bytes.now;
  bound = omega arith;
}

pub take_front-requires-clause-shape : goal.take_front-requires-clause-shape
take_front-requires-clause-shape g c =
    shape_taken (g.W.WriteLog.trace c.args.trace.now) c.args.self.now c.loop-rest.self c.args.bytes.now
    c.loop-rest.rest.now c.loop-rest.number c.loop-rest.invariant.takes ∙ c.requires.shape

pub loop-rest-preserved : goal.loop-rest-preserved
loop-rest-preserved g c =
    let before = c.loop-rest.invariant in
    record {
      takes = rw c.split_at.ensures.back
          (Takes-more (g.W.WriteLog.trace c.args.trace.now) c.args.self.now c.loop-rest.self c.take_front.new.self
          c.args.bytes.now c.loop-rest.rest.now _ c.loop-rest.number before.takes c.in-Ok.ensures.taken);
      bound = omega (arith, before.bound, c.split_at.ensures.back_len, c.in-Ok.ensures.some);
    }

pub returns-in-Err-clause-wrong : goal.returns-in-Err-clause-wrong
returns-in-Err-clause-wrong g c =
    let trace = g.W.WriteLog.trace c.args.trace.now in
    let rest = c.loop-rest.rest.now in
    let offset = length c.args.bytes.now - length rest in
    let same = sym c.in-Err.ensures.unchanged in
    let filled : length rest ≡ 0 → ⊥ = eqb-false _ _ (sym c.is_empty.ensures ∙ c.loop-rest-test.true) in
    let some : 1 ≤ length rest = omega (arith, filled) in
    let takes : TakesRight trace c.args.self.now c.take_front.new.self c.args.bytes.now c.loop-rest.number rest =
    subst (λ (k : Checked). TakesRight trace c.args.self.now k c.args.bytes.now c.loop-rest.number rest) same
    c.loop-rest.invariant.takes in
    let wrong : IsWrongFront trace c.take_front.new.self.stop c.take_front.new.self.last rest c.in-Err.fault =
    subst (λ (k : Checked). IsWrongFront trace k.stop k.last rest c.in-Err.fault) same c.in-Err.ensures.wrong in
    IfErr-weaker c.end_at.result (λ found. (c.in-Err.fault.cause ≢ Refused Short)
    × (found.number ≡ c.loop-rest.number) × (found.offset ≡ offset) × (found.fault ≡ c.in-Err.fault))
    (StopsAt trace c.args.self.now c.take_front.new.self c.args.bytes.now)
    (λ found at. stops_at trace c.args.self.now c.take_front.new.self c.args.bytes.now rest c.loop-rest.number offset
    c.in-Err.fault found takes refl some wrong at.1 at.2 at.3) c.end_at.ensures.wrong
