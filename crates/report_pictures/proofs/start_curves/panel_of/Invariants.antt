use Rattle.std.proofs.Common.{◌≡◌, take}
use Rattle.std.specs.List.{fold}
use Rattle.std.specs.Prelude.{max}
use Rattle.report_pictures.specs.StartCharts.{shown_of}
use Rattle.report_pictures.proofs.start_curves.panel_of.Given as goal

abbrev pub invariant-loop-at : goal.invariant-loop-at
invariant-loop-at l = l.most ≡ fold (λ most at. max (shown_of l.quantity at) most) (max l.least 1)
    (take l.at-index l.costs)
