use Rattle.std.proofs.Common.{◌≡◌, ◌+◌, ◌<◌, ◌∙◌, ap, arith, inl, inr, length, get_or, sym}
use Rattle.std.proofs.lemmas.Bool.{cases_eq}
use Rattle.std.proofs.lemmas.List.{length-set}
use Rattle.working_sets.specs.Counting.{unseen}
use Rattle.working_sets.specs.declared.counting.PageSeen.{PageSeen}
use Rattle.working_sets.proofs.Seen.{set_elsewhere, set_here}
use Rattle.working_sets.proofs.joining.add_windows.Goals as goal

pub overflow_add-sums : goal.overflow_add-sums
overflow_add-sums c =
    let at = c.loop-page in
    omega (arith, at.invariant.left at.page (omega arith), c.requires.fits at.page c.loop-page-test.true)

pub loop-page-preserved : goal.loop-page-preserved
loop-page-preserved c =
    let at = c.loop-page in
    let old = get_or at.sums at.page unseen in
    let new : PageSeen = record old { windows = old.windows + (get_or c.args.marks.now at.page unseen).windows } in
    let low : at.page < length at.sums = omega (arith, at.invariant.len, c.requires.len, c.loop-page-test.true) in
    record {
      len = length-set at.sums at.page new ∙ at.invariant.len;
      done = λ page early. elim (cases_eq at.page page) [
        | inl same ↦ ap (λ (m : PageSeen). m.windows) (set_here at.sums at.page page new unseen same low)
            ∙ (λ i. (get_or at.sums (same i) unseen).windows + (get_or c.args.marks.now (same i) unseen).windows)
            ∙ ap (λ n. n + (get_or c.args.marks.now page unseen).windows)
            (at.invariant.left page (omega (arith, same)))
        | inr other ↦ ap (λ (m : PageSeen). m.windows) (set_elsewhere at.sums at.page page new unseen other)
            ∙ at.invariant.done page (omega (arith, λ (e : page ≡ at.page). other (sym e)))
      ];
      left = λ page late. ap (λ (m : PageSeen). m.windows)
          (set_elsewhere at.sums at.page page new unseen (λ e. omega arith))
          ∙ at.invariant.left page (omega arith);
    }
