use Rattle.std.proofs.Common.{rules, ◌≡◌, ◌^◌, ℕ, List, Option, length, subst}
use Rattle.predictions.specs.Units.Scales.{TraceScale}
use Rattle.migration_model.specs.Rates.{MigrationSettings}
use Rattle.migration_model.specs.Rounds.{MigrationPlan}
use Rattle.migration_model.specs.Windows.{WorkingSets, working_sets_of}
use Rattle.report_pictures.specs.ReportCharts.{IsReportChart}
use Rattle.trace_views.proofs.viewing.chart_view.Goals as goal

of_trace : (settings : MigrationSettings) (scale : Option TraceScale) (plan : MigrationPlan) (text : List ℕ)
    (p p' s s' w w' : ℕ) (sets sets' : WorkingSets) → p ≡ p' → s ≡ s' → w ≡ w' → sets ≡ sets'
    → IsReportChart p (2 ^ s) w settings scale sets plan text
    → IsReportChart p' (2 ^ s') w' settings scale sets' plan text
of_trace settings scale plan text p p' s s' w w' sets sets' pages shift writes tables chart =
    subst (λ (x : ℕ). IsReportChart x (2 ^ s') w' settings scale sets' plan text) pages
    (subst (λ (x : ℕ). IsReportChart p (2 ^ x) w' settings scale sets' plan text) shift
    (subst (λ (x : ℕ). IsReportChart p (2 ^ s) x settings scale sets' plan text) writes
    (subst (λ (x : WorkingSets). IsReportChart p (2 ^ s) w settings scale x plan text) tables chart)))

pub returns-clause-made : goal.returns-clause-made
returns-clause-made c =
    let log = c.args.log.now in
    let settings = c.args.settings.now in
    let pages : c.shape.result.pages ≡ log.pages = search rules in
    let shift : c.shape.result.shift ≡ log.shift = search rules in
    let writes : c.shape.result.writes ≡ length log.touches = search rules in
    let facts = c.in_ok-facts.facts in
    record {
      plan = facts.plan;
      is_plan = c.in_ok-facts.ensures.made.1;
      chart = of_trace settings c.args.scale.now facts.plan c.in_ok-report_chart.field-0.items
          c.shape.result.pages log.pages c.shape.result.shift log.shift c.shape.result.writes (length log.touches)
          facts.tables (working_sets_of log.pages log.touches settings) pages shift writes c.in_ok-facts.ensures.made.0
          c.in_ok-report_chart.ensures;
    }
