use Rattle.std.proofs.Common.{◌≡◌, ◌+◌, ◌<◌, ℕ, List, [], ◌∷◌, ◌++◌, length, map, set, append_assoc, append-nil, ap}
use Rattle.std.proofs.Common.{sym, subst, ◌∙◌, arith}
use Rattle.std.specs.Iterator.Adapters.{enumerate_source}
use Rattle.std.specs.Vec.Iter.{into_iter_items}
use Rattle.std.proofs.lemmas.List.{map-append, length-append, length-map, length_push, nil_from_length}
use Rattle.stream_lanes.specs.Ends.{OutView}
use Rattle.stream_lanes.specs.Grids.{AddsRow}
use Rattle.stream_lanes.proofs.Turned.{adds-none, adds-more}
use Rattle.stream_lanes.proofs.turning.add_row.Goals as goal

pub loop-stream-init : goal.loop-stream-init
loop-stream-init c =
    let is = c.into_iter-stream-iterator.ensures.into_iter_gives in
    record {
      count = cc (is, c.enumerate-stream-items.ensures.count);
      all = cc (is, c.enumerate-stream-items.ensures.source, c.into_iter.ensures.rest);
      adds = adds-none c.args.columns.now.items;
    }

-- the slot of the next end
place : (front : List (ℕ × OutView)) (next : OutView) (old rest row : List OutView) (n stream : ℕ) → old ≡ next ∷ rest
    → map (λ (p : ℕ × OutView). p.1) front ++ old ≡ row → n ≡ length front → stream ≡ n
    → (stream ≡ length (map (λ (p : ℕ × OutView). p.1) front)) × (stream < length row)
place front next old rest row n stream steps all count is =
    let size = length-map front (λ (p : ℕ × OutView). p.1) in
    let long = length-append (map (λ (p : ℕ × OutView). p.1) front) old in
    let full = ap length all in
    let left = ap length steps in
    (omega (arith, size, count, is), omega (arith, size, long, full, left, count, is))

pub index_mut-requires : goal.index_mut-requires
index_mut-requires c =
    let before = c.loop-stream.invariant in
    let steps = c.in-Some.ensures.steps in
    let p = place c.loop-stream.yielded c.in-Some.out _ _ c.args.row.items _ c.in-Some.stream steps.0.0 before.all
    before.count steps.1 in
    omega (arith, p.1, c.requires, before.adds.count, c.loop-stream.columns.ok.0)

pub loop-stream-preserved : goal.loop-stream-preserved
loop-stream-preserved c =
    let before = c.loop-stream.invariant in
    let steps = c.in-Some.ensures.steps in
    let front : List OutView = map (λ (p : ℕ × OutView). p.1) c.loop-stream.yielded in
    let out = c.in-Some.out in
    let rest = into_iter_items (enumerate_source c.next.new.self) in
    let p = place c.loop-stream.yielded out _ _ c.args.row.items _ c.in-Some.stream steps.0.0 before.all before.count
    steps.1 in
    let grown : map (λ (p : ℕ × OutView). p.1) (c.loop-stream.yielded ++ (c.in-Some.stream, out) ∷ []) ≡ front ++ out
    ∷ [] =
    map-append (λ (p : ℕ × OutView). p.1) c.loop-stream.yielded ((c.in-Some.stream, out) ∷ []) in
    record {
      count = steps.2 ∙ ap (λ n. n + 1) before.count ∙ sym (length_push c.loop-stream.yielded (c.in-Some.stream, out));
      all = ap (λ xs. xs ++ rest) grown ∙ append_assoc front (out ∷ []) rest ∙ ap (λ xs. front ++ xs) (sym steps.0.0)
          ∙ before.all;
      adds = subst (λ (xs : List OutView). AddsRow xs c.args.columns.now.items
          (set c.loop-stream.columns.items c.in-Some.stream c.push.new.self)) (sym grown)
          (adds-more front out c.args.columns.now.items c.loop-stream.columns.items c.in-Some.stream
          c.index_mut.result.now c.push.new.self p.0
          (omega (arith, p.1, c.requires, before.adds.count)) c.index_mut.ensures.value c.in_ok-push.ensures.items
          before.adds);
    }

pub returns : goal.returns
returns c =
    let before = c.loop-stream.invariant in
    let front : List OutView = map (λ (p : ℕ × OutView). p.1) c.loop-stream.yielded in
    let source = enumerate_source c.loop-stream.stream-iterator in
    let empty : into_iter_items source ≡ [] = nil_from_length (into_iter_items source)
    (sym source.rest.ok.0 ∙ c.in-None.ensures.steps.0.0) in
    subst (λ (xs : List OutView). AddsRow xs c.args.columns.now.items c.loop-stream.columns.items)
    (sym (append-nil front) ∙ ap (λ xs. front ++ xs) (sym empty) ∙ before.all) before.adds
