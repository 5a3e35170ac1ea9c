use Rattle.std.proofs.Common.{◌≡◌, map}
use Rattle.std.specs.List.{range_with_len}
use Rattle.report_pictures.specs.Columns.{width_of}
use Rattle.report_pictures.proofs.table.column_widths.Given as goal

abbrev pub invariant-loop-column : goal.invariant-loop-column
invariant-loop-column l =
    l.widths.items ≡ map (width_of (map (λ name. name.now) l.names) l.mosts) (range_with_len 0 l.column)
