use Rattle.std.proofs.Common.{◌≡◌, ◌++◌, ◌∙◌, subst, append_assoc}
use Rattle.std.proofs.lemmas.List.{append-nil}
use Rattle.std.specs.List.{flat_map}
use Rattle.migration_model.specs.Rates.{MigrationSettings}
use Rattle.sweep_report.specs.Lines.{case_fields}
use Rattle.sweep_report.proofs.cases.push_settings.Goals as goal

pub returns : goal.returns
returns c =
    let C : MigrationSettings → Type 0 = λ s. c.push_field-7.new.text.items ≡ c.args.text.now.items
    ++ flat_map (λ f. f) (case_fields c.args.number s) in
    subst C (c.asked.view_is ∙ c.asked-asked.ensures.value)
    (rw (
      c.in_ok-push_field-7.ensures,
      c.in_ok-push_field-6.ensures,
      c.in_ok-push_field-5.ensures,
      c.in_ok-push_field-4.ensures,
      c.in_ok-push_field-3.ensures,
      c.in_ok-push_field-2.ensures,
      c.in_ok-push_field.ensures,
      c.flag.ensures,
    ) (simp (append_assoc, append-nil)))
