use Rattle.std.proofs.Common.{◌≡◌, ◌++◌, ◌∙◌, subst, append_assoc}
use Rattle.migration_model.specs.Rates.{MigrationSettings}
use Rattle.trace_views.specs.AdviceText.{grid_lines}
use Rattle.trace_views.proofs.advice_writing.push_grid.Goals as goal

pub returns : goal.returns
unfolding grid_lines
returns c =
    let C : MigrationSettings → Type 0 = λ s.
    c.push_numbers-7.new.text.items ≡ c.args.text.now.items ++ grid_lines s c.args.grid.now in
    subst C (c.asked.view_is ∙ c.asked-asked.ensures.value)
    (rw (
      c.in_ok-push_numbers-7.ensures,
      c.in_ok-push_numbers-6.ensures,
      c.in_ok-push_numbers-5.ensures,
      c.in_ok-push_numbers-4.ensures,
      c.in_ok-push_numbers-3.ensures,
      c.in_ok-push_numbers-2.ensures,
      c.in_ok-push_numbers.ensures,
    ) (simp append_assoc))
