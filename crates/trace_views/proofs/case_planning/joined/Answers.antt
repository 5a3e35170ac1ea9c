use Rattle.std.proofs.Common.{◌≡◌, ◌∙◌, ℕ, ◌<◌, ◌*◌, List, Result, ap, arith, subst, sym, take, length, ◌++◌}
use Rattle.std.specs.Fork.{slice_chunk}
use Rattle.std.specs.Global.{Global}
use Rattle.std.specs.Prelude.{IfOk, Vec}
use Rattle.std.specs.declared.alloc.AllocError.{AllocError}
use Rattle.migration_model.specs.Rates.{MigrationSettings}
use Rattle.predictions.specs.Starts.Cases.{AreCases}
use Rattle.predictions.specs.declared.starts.planned.PlannedCase.{PlannedCase}
use Rattle.trace_views.proofs.PlannedParts.{all_parts, cases_of_part_more}
use Rattle.trace_views.proofs.case_planning.joined.Goals as goal

pub loop-part-preserved : goal.loop-part-preserved
loop-part-preserved c manner pages touches scale size settings are =
    let n = c.loop-part.part-index in
    let parts = c.args.parts.now in
    let next = slice_chunk settings size n in
    let part = c.part-item.result in
    let low : n < length parts = omega (arith, c.loop-part-test.true) in
    let C : Result (Vec PlannedCase Global) AllocError → Type 0 = λ r. IfOk r
    (λ cases. AreCases manner pages touches scale next cases.items) in
    let one : C part = subst C (sym c.part-item.is) (are.each n part low) in
    let some : AreCases manner pages touches scale next c.in-Ok.some.items = subst C c.in-Ok.is one in
    let pushed = c.in_ok-extend_from_slice-in-Ok.ensures.items
    ∙ ap (λ (l : List PlannedCase). c.loop-part.cases.items ++ l) c.deref.ensures.value in
    cases_of_part_more manner pages touches scale size n settings c.loop-part.cases.items c.in-Ok.some.items
    c.extend_from_slice.new.self.items pushed (c.loop-part.invariant manner pages touches scale size settings are) some

pub returns : goal.returns
returns c manner pages touches scale size settings are =
    let n = c.loop-part.part-index in
    let parts = c.args.parts.now in
    let all : n ≡ length parts = omega (arith, c.loop-part-test.false) in
    subst (λ (ss : List MigrationSettings). AreCases manner pages touches scale ss c.loop-part.cases.items)
    (ap (λ (k : ℕ). take (k * size) settings) all ∙ all_parts settings size (length parts) are.some are.count)
    (c.loop-part.invariant manner pages touches scale size settings are)
