use Rattle.std.proofs.Common.{◌≡◌, ◌∙◌, ap, subst, sym, arith}
use Rattle.std.specs.Option.{option_map}
use Rattle.migration_model.specs.Looks.{AreHypervisorSettings, HypervisorSettings}
use Rattle.link_clock.specs.Links.{clock_at}
use Rattle.link_clock.specs.Plans.{settings_by}
use Rattle.link_clock.proofs.Changes.{sound}
use Rattle.link_clock.proofs.Stops.{settings_fit}
use Rattle.link_clock.proofs.planning.by_clock.Goals as goal

pub unreachable-requires : goal.unreachable-requires
unreachable-requires c =
    let link = c.args.link.now in
    let s = c.args.settings.now in
    let asked = c.asked.view_is ∙ c.asked-asked.ensures.value in
    let fit = settings_fit link s (sound link c.rate.ensures.in_range) c.asked-asked.ensures.in_range in
    let same : settings_by link s ≡ record {
      start = c.clock.result;
      base = c.base_by.result;
      rate = c.rate.result;
      window = c.asked.inside.window;
      threshold = c.asked.inside.threshold;
      looks = c.asked.inside.looks;
      end = c.clock-2.result;
    } = sym (λ i. record {
      start = (c.clock.ensures.value ∙ ap (λ (x : HypervisorSettings). clock_at link x.start) asked) i;
      base = (c.base_by.ensures ∙ ap (λ (x : HypervisorSettings). option_map (clock_at link) x.base) asked) i;
      rate = c.rate.ensures.value i;
      window = ap (λ (x : HypervisorSettings). x.window) asked i;
      threshold = ap (λ (x : HypervisorSettings). x.threshold) asked i;
      looks = ap (λ (x : HypervisorSettings). x.looks) asked i;
      end = (c.clock-2.ensures.value ∙ ap (λ (x : HypervisorSettings). clock_at link x.end) asked) i;
    }) in
    let ok = c.new.ensures.in_range.1 (subst (λ (x : HypervisorSettings). AreHypervisorSettings x) same fit) in
    grind (arith, ok, c.in_default.is)
