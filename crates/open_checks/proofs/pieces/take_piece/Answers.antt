use Rattle.std.proofs.Common.{◌≡◌, ◌≢◌, ◌≤◌, ◌-◌, ℕ, List, length, refl, sym, subst, ◌∙◌, arith}
use Rattle.std.proofs.lemmas.Bool.{eqb-false}
use Rattle.std.proofs.lemmas.Result.{IfErr-weaker}
use Rattle.page_message.specs.declared.error.FrameError.TheVariants.{Short}
use Rattle.stream_check.specs.declared.faults.FrameCause.TheVariants.{Refused}
use Rattle.stream_check.specs.Faults.{IsWrongFront}
use Rattle.stream_check.specs.Checked.{Checked, StopsAt, TakesRight}
use Rattle.stream_check.proofs.Fronts.{Takes-more, Takes-nothing, stops_at}
use Rattle.open_checks.specs.Kept.{known_by, stamps_in}
use Rattle.open_checks.proofs.pieces.take_piece.Goals as goal

pub loop-rest-init : goal.loop-rest-init
loop-rest-init c = record {
  takes = Takes-nothing c.args.trace.now
      (known_by c.args.trace.now c.args.stop c.args.last.now c.args.greatest.now) c.args.piece.now;
  words = c.requires.last;
  kept = c.requires.kept;
  bound = omega arith;
}

pub loop-rest-preserved : goal.loop-rest-preserved
loop-rest-preserved c =
    let at = c.loop-rest in
    let before = at.invariant in
    let trace = c.args.trace.now in
    let known = known_by trace c.args.stop in
    record {
      takes = rw c.split_at.ensures.back
          (Takes-more trace (known c.args.last.now c.args.greatest.now) (known at.last at.greatest)
          (known c.take_front.new.last c.take_front.new.greatest) c.args.piece.now at.rest.now _ at.number before.takes
          c.in-Ok.ensures.taken);
      words = c.take_front.auto.last ∙ before.words;
      kept = c.take_front.ensures.kept;
      bound = omega (arith, before.bound, c.split_at.ensures.back_len, c.in-Ok.ensures.some);
    }

pub returns-in-Err-clause-wrong : goal.returns-in-Err-clause-wrong
returns-in-Err-clause-wrong c =
    let trace = c.args.trace.now in
    let at = c.loop-rest in
    let new = c.take_front.new in
    let rest = at.rest.now in
    let known = known_by trace c.args.stop in
    let old : Checked = known c.args.last.now c.args.greatest.now in
    let offset = length c.args.piece.now - length rest in
    let last = sym c.in-Err.ensures.last in
    let greatest = sym c.in-Err.ensures.greatest in
    let same : known at.last at.greatest ≡ known new.last new.greatest = λ i. known (last i) (greatest i) in
    let filled : length rest ≡ 0 → ⊥ = eqb-false _ _ (sym c.is_empty.ensures ∙ c.loop-rest-test.true) in
    let some : 1 ≤ length rest = omega (arith, filled) in
    let takes : TakesRight trace old (known new.last new.greatest) c.args.piece.now at.number rest =
    subst (λ (k : Checked). TakesRight trace old k c.args.piece.now at.number rest) same at.invariant.takes in
    let wrong : IsWrongFront trace c.args.stop (stamps_in new.last) rest c.in-Err.fault =
    subst (λ (l : List ℕ). IsWrongFront trace c.args.stop (stamps_in l) rest c.in-Err.fault) last
    c.in-Err.ensures.wrong in
    IfErr-weaker c.end_at.result (λ found. (c.in-Err.fault.cause ≢ Refused Short) × (found.number ≡ at.number)
    × (found.offset ≡ offset) × (found.fault ≡ c.in-Err.fault))
    (StopsAt trace old (known new.last new.greatest) c.args.piece.now)
    (λ found is. stops_at trace old (known new.last new.greatest) c.args.piece.now rest at.number offset c.in-Err.fault
    found takes refl some wrong is.1 is.2 is.3) c.end_at.ensures.wrong
