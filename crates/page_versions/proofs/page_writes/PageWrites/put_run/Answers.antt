use Rattle.std.proofs.Common.{◌-◌, ℕ, List, map, sym, ap, subst, ◌∙◌}
use Rattle.std.specs.List.{All, between}
use Rattle.std.proofs.lemmas.List.Elements.{All-drop, All-take}
use Rattle.migration_model.specs.Trace.{GuestWrite}
use Rattle.page_versions.specs.Pages.{PutsWithin}
use Rattle.page_versions.specs.declared.page_writes.Spot.{Spot}
use Rattle.page_versions.specs.Copies.{put_copies, write_in}
use Rattle.page_versions.proofs.Copied.{all_mapped, between_mapped}
use Rattle.page_versions.proofs.page_writes.PageWrites.put_run.Goals as goal

pub put_spots-requires-clause-within : goal.put_spots-requires-clause-within
put_spots-requires-clause-within c =
    let P : Spot → Type 0 = λ s. PutsWithin c.args.shape.shift (write_in c.self.inside.bytes.items s) in
    rw (c.deref.ensures.value, c.deref-2.ensures.value)
    (All-take P (c.args.end - c.args.start) _
    (All-drop P c.args.start _
    (all_mapped (write_in c.self.inside.bytes.items) (PutsWithin c.args.shape.shift) c.self.inside.spots.items
    (subst (All (PutsWithin c.args.shape.shift)) (sym c.self.view_is) c.requires.within))))

pub returns : goal.returns
returns c =
    let start = c.args.start in
    let end = c.args.end in
    let put : List GuestWrite → List ℕ = put_copies c.args.shape.shift c.args.bytes.now in
    c.put_spots.ensures
    ∙ (λ j. put (map (write_in (c.deref.ensures.value j)) (between start end (c.deref-2.ensures.value j))))
    ∙ ap put (sym (between_mapped (write_in c.self.inside.bytes.items) start end c.self.inside.spots.items))
    ∙ ap (λ (l : List GuestWrite). put (between start end l)) c.self.view_is
