use Rattle.std.proofs.Common.{◌≡◌, ◌+◌, Option, subst, sym, arith}
use Rattle.std.specs.Prelude.{slice_index_or}
use Rattle.std.proofs.lemmas.List.{get_or_read}
use Rattle.predictions.specs.Starts.Choices.{IsBest}
use Rattle.predictions.specs.Starts.Costs.{CostAtStart}
use Rattle.predictions.specs.declared.starts.planned.PlannedCase.{PlannedCase}
use Rattle.predictions.proofs.BestStarts.{passes, takes}
use Rattle.predictions.proofs.starts.best.best_start.Goals as goal
use Rattle.predictions.proofs.starts.best.best_start.Goals.{in-None, in-Some}

pub loop-case-preserved : goal.loop-case-preserved
loop-case-preserved g c =
    let manner = c.args.measure.now.manner in
    let pages = g.T.Timeline.pages c.args.timeline.now in
    let touches = g.T.Timeline.touches c.args.timeline.now in
    let scale = c.args.measure.now.scale in
    let limits = c.args.measure.now.limits in
    let cases = c.args.cases.now in
    let n = c.loop-case.case-index in
    let case = c.case-item.result in
    let here : (d : PlannedCase) → slice_index_or cases n d ≡ case =
    λ d. sym (get_or_read cases n case (omega arith) c.case-item.is d) in
    let P : Option CostAtStart → Type 0 = λ best. IsBest manner pages touches scale limits cases (n + 1) best in
    elim c.match-branch-2.branch [
      | in-Some w ↦
          subst P (sym w.best-is)
          (takes manner pages touches scale limits cases n case here c.loop-case.best w.in-Some.at
          c.loop-case.invariant (c.in_ok-at.ensures.taken w.in-Some.at w.in-Some.is))
      | in-None w ↦
          subst P (sym w.best-is)
          (passes manner pages touches scale limits cases n case here c.loop-case.best c.loop-case.invariant
          (c.in_ok-at.ensures.passed w.in-None.is))
    ]
