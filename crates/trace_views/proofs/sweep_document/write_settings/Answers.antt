use Rattle.std.proofs.Common.{◌≡◌, ◌++◌, ◌∙◌, subst, append_assoc}
use Rattle.std.proofs.lemmas.List.{append-nil}
use Rattle.std.specs.List.{flat_map}
use Rattle.migration_model.specs.Rates.{MigrationSettings}
use Rattle.trace_views.specs.Json.{settings_members}
use Rattle.trace_views.proofs.sweep_document.write_settings.Goals as goal

pub returns : goal.returns
returns c =
    let C : MigrationSettings → Type 0 = λ s. c.flag_member.new.self ≡ c.args.out.now
    ++ flat_map (λ m. m) (settings_members s) in
    subst C (c.asked.view_is ∙ c.asked-asked.ensures.value)
    (rw (
      c.in_ok-flag_member.ensures,
      c.in_ok-number_member-5.ensures,
      c.in_ok-number_member-4.ensures,
      c.in_ok-number_member-3.ensures,
      c.in_ok-number_member-2.ensures,
      c.in_ok-number_member.ensures,
    )
    (simp (append_assoc, append-nil)))
