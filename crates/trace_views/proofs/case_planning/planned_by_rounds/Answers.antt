use Rattle.std.proofs.Common.{◌∙◌, List, ap, map, subst, sym}
use Rattle.predictions.specs.Starts.Cases.{AreCases, case_of_line}
use Rattle.predictions.specs.declared.course.Manner.TheVariants as manners
use Rattle.predictions.specs.declared.starts.planned.PlannedCase.{PlannedCase}
use Rattle.trace_views.proofs.PlannedParts.{cases_by_rounds}
use Rattle.trace_views.proofs.case_planning.planned_by_rounds.Goals as goal

pub returns-clause-made : goal.returns-clause-made
returns-clause-made g c = λ scale.
    let log = c.args.log.now in
    let settings = c.args.settings.now in
    let is = c.in_ok-cases_of_lines.ensures ∙ ap (map case_of_line) c.deref.ensures.value in
    let C : List PlannedCase → Type 0 = λ cs. AreCases manners.Rounds log.pages log.touches scale settings cs in
    subst C (sym is)
    (cases_by_rounds log.pages log.touches scale settings c.in_ok-lines.lines.items c.in_ok-lines.ensures.lines)
