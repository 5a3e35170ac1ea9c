use Rattle.std.proofs.Common.{◌++◌, List, ℕ, ap, ◌∙◌, codes, slice_index}
use Rattle.predictions.specs.Starts.Texts.{right_in}
use Rattle.report_pictures.proofs.Cells.{number_cell, one_cell_more}
use Rattle.report_pictures.proofs.table.push_numbers.Goals as goal

pub loop-column-preserved : goal.loop-column-preserved
loop-column-preserved c =
    let width = slice_index c.args.widths.now c.loop-column.column in
    one_cell_more (number_cell c.args.widths.now c.args.numbers.now) c.loop-column.column c.args.text.now.items
    c.loop-column.text.items c.push_cell.new.text.items c.loop-column.invariant
    (c.in_ok-push_cell.ensures
    ∙ ap (λ (words : List ℕ). c.loop-column.text.items ++ (codes "  " ++ right_in width words))
    (c.as_bytes.ensures.value ∙ c.format.ensures.text))
