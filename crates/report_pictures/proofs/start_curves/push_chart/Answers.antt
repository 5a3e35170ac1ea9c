use Rattle.std.proofs.Common.{rules, ◌≡◌, ◌++◌, ℕ, List, Some, ap, subst, append_assoc, ◌∙◌}
use Rattle.migration_model.specs.Rates.{MigrationSettings}
use Rattle.report_pictures.specs.Labels.{AreLabels}
use Rattle.report_pictures.specs.Spans.{axis_over}
use Rattle.report_pictures.specs.StartCharts.{starts_axis}
use Rattle.report_pictures.specs.declared.axis.Axis.{Axis}
use Rattle.report_pictures.proofs.start_curves.push_chart.Goals as goal

pub returns : goal.returns
returns c =
    let settings = c.args.settings.now in
    let rows = c.args.tables.now.windows in
    let window : c.behind-settings.inside.window ≡ settings.window =
    ap (λ (s : MigrationSettings). s.window) (c.behind-settings.view_is ∙ c.asked.ensures.value) in
    let axis : c.with_windows-axis.result ≡ axis_over (starts_axis c.args.costs.now) settings.window rows =
    search rules in
    let given : c.deref-2.result.now ≡ rows = search rules in
    let first : (x : List ℕ) × (c.push_labels.new.text.items ≡ c.push_curves.new.text.items ++ x)
    × AreLabels c.with_windows-axis.result (Some c.args.scale.now) 670 x = c.in_ok-push_labels.ensures in
    record {
      head = c.begin_picture.new.text.items;
      labels = first.0;
      are_labels = subst (λ (a : Axis). AreLabels a (Some c.args.scale.now) 670 first.0) axis first.2;
      text_is = rw (
        c.in_ok-end_picture.ensures,
        c.in_ok-push_chosen-2.ensures,
        c.in_ok-push_chosen.ensures,
        first.1,
        c.in_ok-push_curves.ensures,
        c.in_ok-push_windows.ensures,
        c.in_ok-push_text.ensures,
        axis,
        window,
        given,
      ) (simp append_assoc);
    }
