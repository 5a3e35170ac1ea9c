use Rattle.std.proofs.Common.{◌≡◌, ◌++◌, ℕ, ap, arith, ◌∙◌}
use Rattle.report_pictures.proofs.Cells.{first_cells, one_cell_more}
use Rattle.report_pictures.specs.Labels.{label_at}
use Rattle.report_pictures.proofs.axis.Axis.push_steps.Goals as goal

pub loop-number-preserved : goal.loop-number-preserved
loop-number-preserved c = one_cell_more (label_at c.args.self.now c.args.scale.now c.args.bottom c.args.step)
    c.loop-number.number c.args.text.now.items c.loop-number.text.items c.push_step.new.text.items
    c.loop-number.invariant c.in_ok-push_step.ensures

pub returns : goal.returns
returns c =
    let cells = first_cells (label_at c.args.self.now c.args.scale.now c.args.bottom c.args.step) in
    let all : c.loop-number.number ≡ 8 = omega arith in
    c.loop-number.invariant ∙ ap (λ (n : ℕ). c.args.text.now.items ++ cells n) all
