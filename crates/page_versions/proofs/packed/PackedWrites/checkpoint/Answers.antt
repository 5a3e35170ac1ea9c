use Rattle.std.proofs.Common.{◌≡◌, ◌-◌, ◌/◌, ◌<◌, [], List, get_or, length, sym, ap, subst, ◌∙◌, arith}
use Rattle.std.specs.List.{All}
use Rattle.std.proofs.lemmas.List.{get_or-map}
use Rattle.page_versions.specs.Copies.{GuestPack, IsCheckpoint, PageCheckpoint}
use Rattle.page_versions.proofs.packed.PackedWrites.checkpoint.Goals as goal

pub returns-clause-made : goal.returns-clause-made
returns-clause-made c = λ trace is low.
    let page = c.args.page in
    let all = c.self.inside.checkpoints in
    let made = c.index-made.result.now in
    let inside : page < length all.items = omega (arith, c.if-len-page.false, c.len.ensures, all.ok.0) in
    let own : made.items ≡ get_or c.args.self.now.checkpoints page [] =
    ap (λ m. m.items) c.index-made.ensures
    ∙ sym (get_or-map (λ m. m.items) all.items page made [] inside)
    ∙ ap (λ (p : GuestPack). get_or p.checkpoints page []) c.self.view_is in
    let each : All (IsCheckpoint trace page) made.items =
    subst (λ (l : List PageCheckpoint). All (IsCheckpoint trace page) l) (sym own) (is.made page low) in
    let last : c.args.count / 1_024 - 1 < length made.items = omega (
      arith,
      c.if-last-eq0.false,
      c.if-len-last.false,
      c.len-else-last-eq0.ensures,
      made.ok.0,
    ) in
    subst (IsCheckpoint trace page) (sym c.index-2.ensures) (each (c.args.count / 1_024 - 1) c.index-2.result.now last)
