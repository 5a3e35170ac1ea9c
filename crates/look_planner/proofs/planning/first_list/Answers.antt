use Rattle.std.proofs.Common.{◌∙◌, ap, arith, replicate}
use Rattle.migration_model.specs.Looks.{HypervisorSettings}
use Rattle.look_planner.proofs.Ways.{lacking_list, list_within}
use Rattle.look_planner.proofs.planning.first_list.Goals as goal

pub list_marked-listed-requires-clause-room : goal.list_marked-listed-requires-clause-room
list_marked-listed-requires-clause-room g c =
    let pages = g.T.Timeline.pages c.args.timeline.now in
    let touches = g.T.Timeline.touches c.args.timeline.now in
    let s = c.args.settings.now in
    let within = list_within pages _ (lacking_list pages touches s.base s.start _ c.requires.few c.requires.lacking) in
    omega (arith, within, c.requires.room)

pub returns-clause-first : goal.returns-clause-first
returns-clause-first g c =
    let pages = g.T.Timeline.pages c.args.timeline.now in
    let touches = g.T.Timeline.touches c.args.timeline.now in
    let s = c.args.settings.now in
    let asked = c.behind-settings.view_is ∙ c.asked.ensures.value in
    let list = c.list_marked-listed.ensures in
    let is = list.list ∙ c.requires.lacking in
    let within = list_within pages _ (lacking_list pages touches s.base s.start _ c.requires.few c.requires.lacking) in
    record {
      in_range = c.asked.ensures.in_range;
      listed = record {
        room_len = list.room ∙ c.requires.room;
        few = omega (arith, within, list.count);
        list = lacking_list pages touches s.base s.start _ c.requires.few is;
      };
      from_is = ap (λ (x : HypervisorSettings). x.start) asked;
      pages_are = is;
    }

pub returns-clause-ready : goal.returns-clause-ready
returns-clause-ready g c = record {
  clear = c.list_marked-listed.ensures.clear ∙ ap (λ n. replicate n 0) c.requires.marks;
  bound = c.before-2.ensures.bound;
  point = c.before-2.ensures.point;
}
