use Rattle.std.proofs.Common.{ℕ, ◌<◌, List, length, refl, sym, subst, ◌∙◌, arith}
use Rattle.std.proofs.lemmas.List.{length-take, take_all, take_more_set}
use Rattle.std.proofs.lemmas.Grind.{common_steps}
use Rattle.job_commands.specs.Cases.{SpellsNumbers}
use Rattle.job_commands.proofs.CaseLemmas.{all_parts, bad_part, few_parts, if_none, many_parts, read_none, read_one}
use Rattle.job_commands.proofs.cases.numbers_of.Goals as goal

pub loop-number-init : goal.loop-number-init
loop-number-init c = record {
  so_far = read_none c.args.word.now _ c.split-parts.ensures.text c.split-parts.ensures.has_more
      c.split-parts.ensures.pattern;
  six = refl;
}

pub returns-in_err-next-clause-none : goal.returns-in_err-next-clause-none
returns-in_err-next-clause-none c =
    if_none _ (few_parts c.args.word.now c.loop-number.parts c.next.new.self _ c.loop-number.invariant.so_far
    c.in_err-next.ensures.steps (omega (arith, length-take c.loop-number.number-index c.loop-number.number-items)))

pub returns-in_err-number-clause-none : goal.returns-in_err-number-clause-none
returns-in_err-number-clause-none c =
    if_none _ (bad_part c.args.word.now c.loop-number.parts c.next.new.self c.in_ok-next.field-0 _
    c.loop-number.invariant.so_far c.in_ok-next.ensures.steps c.in_err-number.ensures.none)

pub loop-number-preserved : goal.loop-number-preserved
loop-number-preserved c = record {
  so_far =
      let one = read_one c.args.word.now c.loop-number.parts c.next.new.self c.in_ok-next.field-0 _
      c.in_ok-number.field-0 c.loop-number.invariant.so_far c.in_ok-next.ensures.steps
      c.in_ok-number.ensures.number in
      let low : c.loop-number.number-index < length c.loop-number.number-items = omega arith in
      rw take_more_set one;
  six = grind (arith, common_steps);
}

pub returns-then-is_some-clause-none : goal.returns-then-is_some-clause-none
returns-then-is_some-clause-none c = many_parts c.args.word.now c.loop-number.parts c.next-2.new.self c.next-2.result _
    c.loop-number.invariant.so_far c.next-2.ensures.steps (sym c.is_some.ensures ∙ c.if-is_some.true)
    (omega (arith, length-take c.loop-number.number-index c.loop-number.number-items))

pub returns-clause-numbers : goal.returns-clause-numbers
returns-clause-numbers c =
    let P : List ℕ → Type 0 = λ l. SpellsNumbers c.args.word.now l in
    let all = all_parts c.args.word.now c.loop-number.parts c.next-2.new.self c.next-2.result _
    c.loop-number.invariant.so_far c.next-2.ensures.steps (sym c.is_some.ensures ∙ c.if-is_some.false) in
    subst P (take_all c.loop-number.number-index c.loop-number.number-items (omega arith)) all
