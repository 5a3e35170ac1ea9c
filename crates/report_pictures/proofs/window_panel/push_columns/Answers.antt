use Rattle.std.proofs.Common.{◌++◌, List, ℕ, Vec, Global, ap, sym, refl, ◌∙◌}
use Rattle.report_pictures.specs.WindowBars.{column_of}
use Rattle.report_pictures.proofs.Merging.{apart_on, joined_on, last_alone}
use Rattle.report_pictures.proofs.window_panel.push_columns.Goals as goal
use Rattle.report_pictures.proofs.window_panel.push_columns.Goals.{then-next-last, else-next-last+in_ok-push_column}

pub loop-window-init : goal.loop-window-init
loop-window-init c = refl

pub loop-window-preserved : goal.loop-window-preserved
loop-window-preserved c =
    let place = column_of c.args.axis.now c.args.length in
    let items = λ (v : Vec ℕ Global). v.items in
    elim c.if-next-last.branch [
      | then-next-last w ↦ joined_on c.args.panel.now place c.loop-window.last c.placed-next.result
          c.loop-window.window-index c.args.windows.now c.window-item.result c.loop-window-test.true c.window-item.is
          c.placed-next.ensures w.if-next-last.true c.if-next-last.last c.loop-window.text.items
          c.if-next-last.text.items
          _ (w.last-is ∙ w.merged-last.ensures) (ap items w.text-is) c.loop-window.invariant
      | else-next-last+in_ok-push_column w ↦ apart_on c.args.panel.now place c.loop-window.last c.placed-next.result
          c.loop-window.window-index c.args.windows.now c.window-item.result c.loop-window-test.true c.window-item.is
          c.placed-next.ensures w.if-next-last.false c.if-next-last.last c.loop-window.text.items
          c.if-next-last.text.items _ w.last-is (ap items w.text-is ∙ w.in_ok-push_column.ensures)
          c.loop-window.invariant
    ]

pub returns : goal.returns
returns c =
    let place = column_of c.args.axis.now c.args.length in
    c.in_ok-push_column-2.ensures
    ∙ ap (λ (l : List ℕ). c.loop-window.text.items ++ l)
    (sym (last_alone c.args.panel.now place c.loop-window.last c.loop-window.window-index c.args.windows.now
    c.loop-window-test.false))
    ∙ c.loop-window.invariant
