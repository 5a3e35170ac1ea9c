use Rattle.std.proofs.Common.{◌≡◌, ◌++◌, take}
use Rattle.report_pictures.specs.StartCharts.{curve_head, points_of}
use Rattle.report_pictures.proofs.start_curves.push_line.Given as goal

abbrev pub invariant-loop-at : goal.invariant-loop-at
invariant-loop-at l = l.text.items ≡ (l.fn.text.items ++ curve_head l.is_late)
    ++ points_of l.axis l.panel l.quantity l.is_late (take l.at-index l.costs)
