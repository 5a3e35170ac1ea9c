use Rattle.std.proofs.Common.{rules, ◌≡◌, List, subst}
use Rattle.migration_model.specs.Windows.{WorkingSets, working_sets_of}
use Rattle.predictions.specs.Starts.Costs.{CostAtStart}
use Rattle.report_pictures.specs.StartCharts.{IsStartsChart}
use Rattle.trace_views.proofs.starting.chart.Goals as goal

pub returns-clause-made : goal.returns-clause-made
returns-clause-made c =
    let asked = c.args.asked.now in
    let log = c.args.log.now in
    let found = c.args.found.now in
    let text = c.in_ok-starts_chart.field-0.items in
    let sets = working_sets_of log.pages log.touches asked.settings in
    let tables : c.in_ok-tables.tables ≡ sets = search rules in
    subst (λ (costs : List CostAtStart). IsStartsChart asked.settings asked.scale asked.limits sets costs found.best
    found.worst text) c.deref.ensures.value
    (subst (λ (s : WorkingSets). IsStartsChart asked.settings asked.scale asked.limits s c.deref.result.now found.best
    found.worst text) tables c.in_ok-starts_chart.ensures)
