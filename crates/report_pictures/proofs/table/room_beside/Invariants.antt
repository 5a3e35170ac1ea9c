use Rattle.std.proofs.Common.{◌≡◌, take}
use Rattle.report_pictures.specs.Columns.{bar_room}
use Rattle.report_pictures.proofs.table.room_beside.Given as goal

abbrev pub invariant-loop-column : goal.invariant-loop-column
invariant-loop-column l = l.room ≡ bar_room l.width (take l.column-index l.widths)
