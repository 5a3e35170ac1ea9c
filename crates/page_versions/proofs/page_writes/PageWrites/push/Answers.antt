use Rattle.std.proofs.Common.{◌++◌, ◌∷◌, [], List, length, map, refl, ap, ◌∙◌, arith}
use Rattle.migration_model.specs.Trace.{GuestWrite}
use Rattle.page_versions.specs.declared.page_writes.Spot.{Spot}
use Rattle.page_versions.specs.Copies.{bare, write_in}
use Rattle.page_versions.proofs.Copied.{written_pushed}
use Rattle.page_versions.proofs.page_writes.PageWrites.push.Goals as goal

pub returns : goal.returns
returns c =
    let spot : Spot = record {
      start = c.len.result;
      offset = c.args.write.now.offset;
      length = length c.args.write.now.bytes.now;
    } in
    let own = bare c.args.write.now.offset c.args.write.now.bytes.now in
    let spots = c.push_reserved.ensures.items ∙ ap (λ (l : List Spot). l ++ spot ∷ []) c.in_ok-reserve.ensures.items in
    (λ j. map (write_in (c.in_ok-extend_from_slice.ensures.items j)) (spots j))
    ∙ written_pushed c.self.inside.bytes.items c.args.write.now.bytes.now c.self.inside.spots.items spot
    c.self.invariant.0 (omega (arith, c.len.ensures, c.self.inside.bytes.ok.0)) refl
    ∙ ap (λ (l : List GuestWrite). l ++ own ∷ []) c.self.view_is
