use Rattle.std.proofs.Common.{◌≡◌, ◌-◌, ◌≤◌, ◌∙◌, ap, drop, length, take, ℕ, arith}
use Rattle.std.proofs.lemmas.List.Elements.{All-drop, All-take}
use Rattle.std.proofs.lemmas.List.Sorted.{IsNonDecreasingBy-drop}
use Rattle.std.proofs.lemmas.Slice.{between_to_end}
use Rattle.migration_model.proofs.Pages.{length-page_at}
use Rattle.page_versions.specs.Index.{places_of}
use Rattle.page_versions.specs.Pages.{put_all}
use Rattle.open_traces.proofs.PageWalks.{version_within}
use Rattle.open_traces.proofs.Searched.{page_found, places_of_fit, places_of_rise}
use Rattle.open_traces.proofs.open_trace.OpenTrace.bring_on.Goals as goal

pub count_to-requires : goal.count_to-requires
count_to-requires c = rw c.places-places.ensures (places_of_rise c.args.self.now c.args.page)

pub count_to-requires-2 : goal.count_to-requires-2
count_to-requires-2 c =
    let places = c.places-places.result.now in
    let few = c.count_to.result in
    rw (between_to_end places few (length places) (omega arith), c.places-places.ensures)
    (IsNonDecreasingBy-drop (λ v. v) few (places_of c.args.self.now c.args.page)
    (places_of_rise c.args.self.now c.args.page))

pub put_writes-requires-clause-room : goal.put_writes-requires-clause-room
put_writes-requires-clause-room c =
    ap length c.requires.bytes
    ∙ length-page_at c.args.self.now c.args.page c.args.from c.shape.ensures.is_trace c.requires.page

pub put_writes-requires-clause-places : goal.put_writes-requires-clause-places
put_writes-requires-clause-places c =
    let trace = c.args.self.now in
    let places = c.places-places.result.now in
    let few = c.count_to.result in
    let P : ℕ → Type 0 = λ v. (1 ≤ v) × (v ≤ length trace.writes) in
    rw (between_to_end places few (length places) (omega arith), c.places-places.ensures)
    (All-take P c.count_to-2.result (drop few (places_of trace c.args.page))
    (All-drop P few (places_of trace c.args.page) (places_of_fit trace c.args.page)))

pub returns : goal.returns
returns c =
    let trace = c.args.self.now in
    let places = c.places-places.result.now in
    let few = c.count_to.result in
    let later : take (length places - few) (drop few places) ≡ drop few (places_of trace c.args.page) =
    between_to_end places few (length places) (omega arith) ∙ ap (drop few) c.places-places.ensures in
    c.put_writes.ensures
    ∙ (λ i. put_all trace (c.requires.bytes i) (take c.count_to-2.result (later i)))
    ∙ page_found trace c.args.page c.args.from c.args.count few c.count_to-2.result c.shape.ensures.is_trace
    c.requires.page c.requires.later (version_within trace c.args.page c.args.from c.requires.is)
    (rw c.places-places.ensures at c.count_to.ensures) (rw later at c.count_to-2.ensures)
