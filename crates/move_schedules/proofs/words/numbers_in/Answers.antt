use Rattle.std.proofs.Common.{List, ℕ, ◌+◌, map, take, subst, sym}
use Rattle.std.specs.List.{AllZip}
use Rattle.move_schedules.specs.Tables.{IsNumber}
use Rattle.move_schedules.proofs.TableLemmas.{no_numbers, numbers_more}
use Rattle.move_schedules.proofs.words.numbers_in.Goals as goal

pub returns-in-None-clause-refused : goal.returns-in-None-clause-refused
returns-in-None-clause-refused c = λ same.
    no_numbers c.args.words.now c.loop-word.word-index _ c.loop-word-test.true c.in-None.ensures.none

pub loop-word-preserved : goal.loop-word-preserved
loop-word-preserved c =
    let words = c.args.words.now in
    let i = c.loop-word.word-index in
    subst (λ (l : List ℕ). AllZip IsNumber (take (i + 1) (map (λ w. w.now) words)) l)
    (sym c.in_ok-push-in-Some.ensures.items)
    (numbers_more words i _ c.loop-word.numbers.items c.in-Some.number c.loop-word-test.true c.loop-word.invariant
    c.in-Some.ensures.some)
