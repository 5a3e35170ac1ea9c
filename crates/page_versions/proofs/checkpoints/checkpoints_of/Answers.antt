use Rattle.std.proofs.Common.{◌≡◌, ◌-◌, ◌≤◌, ◌++◌, ◌∷◌, [], drop, get_or, length, take, sym, ap}
use Rattle.std.proofs.Common.{subst, ◌∙◌, arith}
use Rattle.std.specs.List.{All}
use Rattle.std.specs.List.Sorted.{IsNonDecreasing}
use Rattle.std.proofs.lemmas.List.Elements.{All-append, All-cons, All-nil}
use Rattle.std.proofs.lemmas.List.{take_at}
use Rattle.migration_model.specs.Versions.{page_at}
use Rattle.migration_model.proofs.Pages.{length-page_at}
use Rattle.page_versions.specs.Copies.{IsCheckpoint, PageCheckpoint}
use Rattle.page_versions.proofs.Copied.{places_ascend, places_bound}
use Rattle.page_versions.proofs.checkpoints.checkpoints_of.Goals as goal

pub bring_on-reached-requires-clause-version : goal.bring_on-reached-requires-clause-version
bring_on-reached-requires-clause-version g c =
    let source = c.args.source.now in
    let bound = subst (All (λ place. (1 ≤ place) × (place ≤ length source.writes))) (sym c.requires.places)
    (places_bound source c.args.page) in
    (bound (c.loop-count.count - 1) 0 (omega (arith, c.loop-count.invariant.some, c.loop-count-test.true))).1

pub loop-count-preserved : goal.loop-count-preserved
loop-count-preserved g c =
    let source = c.args.source.now in
    let page = c.args.page in
    let count = c.loop-count.count in
    let was = c.loop-count.bytes in
    let now = c.bring_on-reached.new.bytes in
    let place = get_or c.args.places.now (count - 1) 0 in
    let made : PageCheckpoint = record { version = place; bytes = c.in_ok-bytes.bytes.items } in
    let order = subst IsNonDecreasing (sym c.requires.places) (places_ascend source page) in
    let bound = subst (All (λ place. (1 ≤ place) × (place ≤ length source.writes))) (sym c.requires.places)
    (places_bound source page) (count - 1) 0 (omega (arith, c.loop-count.invariant.some, c.loop-count-test.true)) in
    let wrote : take was.len (now ++ drop (length now) was.items) ≡ now =
    take_at now (drop (length now) was.items) was.len
    (omega (
      arith,
      ap length c.bring_on-reached.ensures.bytes,
      length-page_at source page place c.shape.ensures.is_trace c.requires.page,
      ap length c.loop-count.invariant.bytes,
      length-page_at source page c.loop-count.reached.version c.shape.ensures.is_trace c.requires.page,
      was.ok.0,
    )) in
    let is : IsCheckpoint source page made =
    (bound.1, c.in_ok-bytes.ensures.items ∙ c.deref.ensures.value ∙ wrote ∙ c.bring_on-reached.ensures.bytes) in
    record {
      some = omega arith;
      bytes = wrote ∙ c.bring_on-reached.ensures.bytes
          ∙ ap (page_at source page) (sym c.bring_on-reached.ensures.version);
      later = λ k le low. omega (
        arith,
        c.bring_on-reached.ensures.version,
        order (count - 1) k 0 (omega (arith, le)) low,
      );
      made = rw c.in_ok-push.ensures.items
          (All-append (IsCheckpoint source page) c.loop-count.made.items (made ∷ []) c.loop-count.invariant.made
          (All-cons (IsCheckpoint source page) made [] is (All-nil (IsCheckpoint source page))));
    }
