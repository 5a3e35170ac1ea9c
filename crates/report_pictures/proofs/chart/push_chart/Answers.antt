use Rattle.std.proofs.Common.{rules, ◌≡◌, ◌++◌, ℕ, List, ap, subst, append_assoc, ◌∙◌}
use Rattle.migration_model.specs.Rates.{MigrationSettings}
use Rattle.report_pictures.specs.Labels.{AreLabels}
use Rattle.report_pictures.specs.Panels.{bottom_of}
use Rattle.report_pictures.specs.ReportCharts.{pages_panel, rates_panel, rounds_axis, windows_panel}
use Rattle.report_pictures.specs.Spans.{axis_over}
use Rattle.report_pictures.specs.declared.axis.Axis.{Axis}
use Rattle.report_pictures.proofs.chart.push_chart.Goals as goal

pub returns : goal.returns
returns c =
    let settings = c.args.settings.now in
    let plan = c.args.plan.now in
    let rows = c.args.tables.now.windows in
    let window : c.behind-settings.inside.window ≡ settings.window =
    ap (λ (s : MigrationSettings). s.window) (c.behind-settings.view_is ∙ c.asked.ensures.value) in
    let rounds : c.of_rounds-rounds_axis.result ≡ rounds_axis settings plan = c.of_rounds-rounds_axis.ensures in
    let axis : c.with_windows-axis.result ≡ axis_over (rounds_axis settings plan) settings.window rows = search rules in
    let given : c.deref-4.result.now ≡ rows = search rules in
    let panel : c.panel_of_windows-windows.result ≡ windows_panel rows = search rules in
    let pages : c.panels_of_rounds.result.0 ≡ pages_panel plan.rounds = search rules in
    let rates : c.panels_of_rounds.result.1 ≡ rates_panel plan.rounds = search rules in
    let upper : c.bottom.result ≡ 240 = c.bottom.ensures ∙ ap bottom_of panel in
    let first : (x : List ℕ) × (c.push_labels.new.text.items ≡ c.push_place.new.text.items ++ x)
    × AreLabels c.with_windows-axis.result c.args.scale.now c.bottom.result x = c.in_ok-push_labels.ensures in
    let second : (x : List ℕ) × (c.push_labels-2.new.text.items ≡ c.push_rounds.new.text.items ++ x)
    × AreLabels c.of_rounds-rounds_axis.result c.args.scale.now c.bottom-2.result x =
    c.in_ok-push_labels-2.ensures in
    let lower : c.bottom-2.result ≡ 610 = c.bottom-2.ensures ∙ ap bottom_of rates in
    record {
      head = c.begin_picture.new.text.items;
      upper = first.0;
      are_upper = subst (λ (a : Axis). AreLabels a c.args.scale.now 240 first.0) axis
          (subst (λ (b : ℕ). AreLabels c.with_windows-axis.result c.args.scale.now b first.0) upper
          first.2);
      lower = second.0;
      are_lower = subst (λ (a : Axis). AreLabels a c.args.scale.now 610 second.0) rounds
          (subst (λ (b : ℕ). AreLabels c.of_rounds-rounds_axis.result c.args.scale.now b
          second.0) lower second.2);
      text_is = rw (
        c.in_ok-end_picture.ensures,
        c.in_ok-push_units_if.ensures,
        c.in_ok-push_stop.ensures,
        second.1,
        c.in_ok-push_rounds.ensures,
        first.1,
        c.in_ok-push_place.ensures,
        c.in_ok-push_windows.ensures,
        c.in_ok-push_trace.ensures,
        axis,
        rounds,
        panel,
        pages,
        rates,
        window,
        given,
      ) (simp append_assoc);
    }
