use Rattle.std.proofs.Common.{◌∙◌, Option, List, set, subst, sym, ap, arith}
use Rattle.std.specs.Prelude.{IfSome, slice_index_or}
use Rattle.std.proofs.lemmas.List.{take_all}
use Rattle.migration_model.specs.Rates.{MigrationSettings}
use Rattle.migration_model.specs.Sweeps.{SweepLine, IsLineOf, AreLines}
use Rattle.sweep_report.proofs.Taken.{no_line, taken_set, lines_more}
use Rattle.sweep_report.proofs.sweeping.in_order.Goals as goal

pub line_or_new-requires : goal.line_or_new-requires
line_or_new-requires g c =
    let pages = g.T.Timeline.pages c.args.timeline.now in
    let touches = g.T.Timeline.touches c.args.timeline.now in
    let case = c.index-cases-number.result in
    let there = c.loop-number.invariant.taken.each c.loop-number.number case c.index_mut.result.now (omega arith) in
    let C : Option SweepLine → Type 0 = λ x. IfSome x (IsLineOf pages touches case) in
    let D : MigrationSettings → Type 0 = λ s. IfSome c.take.result (IsLineOf pages touches s) in
    let E : Option SweepLine → Type 0 = λ x. IfSome x (IsLineOf pages touches
    (slice_index_or c.args.cases.now c.loop-number.number case)) in
    subst D (sym c.index-cases-number.is) (subst E (sym (c.take.ensures.value ∙ c.index_mut.ensures.value)) there)

pub loop-number-preserved : goal.loop-number-preserved
loop-number-preserved g c =
    let pages = g.T.Timeline.pages c.args.timeline.now in
    let touches = g.T.Timeline.touches c.args.timeline.now in
    let n = c.loop-number.number in
    let taken = c.loop-number.taken.items in
    let before = c.loop-number.invariant in
    record {
      taken = taken_set pages n touches c.args.cases.now taken _ no_line (λ d. tt)
          (ap (λ (x : Option SweepLine). set taken n x) c.take.ensures.after) before.taken;
      lines = lines_more pages n touches c.args.cases.now c.loop-number.lines.items c.push.new.self.items
          c.index-cases-number.result c.in_ok-line_or_new.field-0 (omega arith)
          c.index-cases-number.is c.in_ok-push.ensures.items before.lines c.in_ok-line_or_new.ensures.line;
    }

pub returns-clause-lines : goal.returns-clause-lines
returns-clause-lines g c =
    let C : List MigrationSettings → Type 0 = λ cs. AreLines (g.T.Timeline.pages c.args.timeline.now)
    (g.T.Timeline.touches c.args.timeline.now) cs c.loop-number.lines.items in
    subst C (take_all c.loop-number.number c.args.cases.now (omega arith)) c.loop-number.invariant.lines
