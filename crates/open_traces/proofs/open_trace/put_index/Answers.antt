use Rattle.std.proofs.Common.{◌≡◌, ◌∙◌, ◌++◌, length, arith}
use Rattle.open_traces.specs.Index.{places_below, starts_below}
use Rattle.open_traces.proofs.Opened.{pages_fit}
use Rattle.open_traces.proofs.open_trace.put_index.Goals as goal

pub put_places-requires-clause-fit : goal.put_places-requires-clause-fit
put_places-requires-clause-fit c =
    let size : length c.split_at_mut-places.result.1.now ≡ c.args.trace.now.pages = omega (
      arith,
      c.requires,
      c.shape-writes.ensures.writes,
      c.split_at_mut-begins.ensures.back_len,
      c.split_at_mut-pages.ensures.back_len,
      c.split_at_mut-places.ensures.back_len,
    ) in
    rw c.put_records.ensures.pages (pages_fit c.args.trace.now _ c.shape-writes.ensures.is_trace size)

pub returns : goal.returns
returns c =
    let trace = c.args.trace.now in
    let size : length c.split_at_mut-places.result.1.now ≡ trace.pages = omega (
      arith,
      c.requires,
      c.shape-writes.ensures.writes,
      c.split_at_mut-begins.ensures.back_len,
      c.split_at_mut-pages.ensures.back_len,
      c.split_at_mut-places.ensures.back_len,
    ) in
    let pages = c.put_records.ensures.pages in
    let places = c.put_places.ensures.places ∙ (λ i. places_below (pages i) (size i)) in
    let starts = c.put_places.ensures.starts ∙ (λ i. starts_below (pages i) (size i)) in
    λ i. c.put_records.ensures.begins i ++ (pages i ++ (places i ++ starts i))
