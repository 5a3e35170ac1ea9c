use Rattle.std.proofs.Common.{◌≡◌, take}
use Rattle.report_pictures.specs.Columns.{most_of}
use Rattle.report_pictures.specs.MeasuredScreens.{moments_width, sizes_width}
use Rattle.report_pictures.proofs.units_screen.widths_of.Given as goal

abbrev pub invariant-loop-round : goal.invariant-loop-round
invariant-loop-round l = record {
  time : l.widths.time ≡ most_of (moments_width l.scale) (take l.round-index l.plan.rounds);
  size : l.widths.size ≡ most_of (sizes_width l.scale) (take l.round-index l.plan.rounds);
}
