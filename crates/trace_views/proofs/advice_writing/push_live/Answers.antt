use Rattle.std.proofs.Common.{◌≡◌, ◌++◌, ◌∙◌, subst, append_assoc}
use Rattle.migration_model.specs.Rates.{MigrationSettings}
use Rattle.trace_views.specs.AdviceText.{live_line}
use Rattle.trace_views.proofs.advice_writing.push_live.Goals as goal

pub returns : goal.returns
returns c =
    let C : MigrationSettings → Type 0 = λ s. c.end_line.new.text.items ≡ c.args.text.now.items ++ live_line s in
    subst C (c.asked.view_is ∙ c.asked-asked.ensures.value)
    (rw (
      c.in_ok-end_line.ensures,
      c.in_ok-push_skip.ensures,
      c.in_ok-push_base.ensures,
      c.in_ok-push_field-6.ensures,
      c.in_ok-push_field-5.ensures,
      c.in_ok-push_field-4.ensures,
      c.in_ok-push_field-3.ensures,
      c.in_ok-push_field-2.ensures,
      c.in_ok-push_field.ensures,
    ) (simp append_assoc))
