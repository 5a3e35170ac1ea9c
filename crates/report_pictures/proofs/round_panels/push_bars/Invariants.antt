use Rattle.std.proofs.Common.{◌≡◌, ◌++◌, take}
use Rattle.report_pictures.specs.ReportCharts.{rounds_bars}
use Rattle.report_pictures.proofs.round_panels.push_bars.Given as goal

abbrev pub invariant-loop-round : goal.invariant-loop-round
invariant-loop-round l = l.text.items ≡ l.fn.text.items
    ++ rounds_bars l.axis l.pages l.rates (take l.round-index l.rounds)
