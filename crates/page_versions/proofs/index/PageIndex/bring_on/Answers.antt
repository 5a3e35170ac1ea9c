use Rattle.std.proofs.Common.{ℕ, ◌≤◌, List, leb, ltb, length, fold, ap, ◌∙◌, arith}
use Rattle.std.specs.List.{filter}
use Rattle.std.proofs.lemmas.List.Elements.{All-filter}
use Rattle.migration_model.specs.Trace.{GuestWrite}
use Rattle.migration_model.proofs.Pages.{length-page_at}
use Rattle.page_versions.specs.Index.{places_in}
use Rattle.page_versions.specs.Pages.{overwrite, write_at}
use Rattle.std.proofs.lemmas.List.{length-map}
use Rattle.migration_model.specs.Touches.{touch_of}
use Rattle.page_versions.proofs.Places.{places_few, places_of_index, places_rise}
use Rattle.page_versions.proofs.Pages.{places_fit}
use Rattle.page_versions.proofs.Later.{later_page}
use Rattle.page_versions.proofs.index.PageIndex.bring_on.Goals as goal

pub places_between-writes-requires-clause-rising : goal.places_between-writes-requires-clause-rising
places_between-writes-requires-clause-rising g c = rw c.part.ensures (places_rise c.args.self.now.touches c.args.page)

pub put_writes-requires-clause-room : goal.put_writes-requires-clause-room
put_writes-requires-clause-room g c =
    let trace = g.W.WriteLog.trace c.args.trace.now in
    ap length c.requires.bytes ∙ length-page_at trace c.args.page c.args.from.version c.shape.ensures.is_trace
    (omega (arith, c.requires.page, c.requires.of.0))

pub put_writes-requires-clause-places : goal.put_writes-requires-clause-places
put_writes-requires-clause-places g c =
    let P : ℕ → Type 0 = λ v. (1 ≤ v) × (v ≤ length (g.W.WriteLog.trace c.args.trace.now).writes) in
    let page = places_fit (g.W.WriteLog.trace c.args.trace.now) c.args.self.now c.args.page c.requires.of in
    rw (c.places_between-writes.ensures.places, c.part.ensures)
    (All-filter (λ v. leb v c.args.to) P _ (All-filter (λ v. ltb c.args.from.version v) P _ page))

pub overflow_cast-result : goal.overflow_cast-result
overflow_cast-result g c =
    let trace = g.W.WriteLog.trace c.args.trace.now in
    let index = c.args.self.now in
    omega (
      arith,
      c.places_between-writes.ensures.bound,
      ap length c.part.ensures,
      places_few index.touches c.args.page,
      ap length c.requires.of.1,
      length-map trace.writes touch_of,
      c.shape.ensures.is_trace.count,
    )

pub returns-clause-bytes : goal.returns-clause-bytes
returns-clause-bytes g c =
    let trace = g.W.WriteLog.trace c.args.trace.now in
    let from = c.args.from.version in
    let step : List GuestWrite → List ℕ → ℕ → List ℕ = λ writes bytes place. overwrite trace.shift bytes
    (write_at writes place) in
    let between : List ℕ → List ℕ = λ l. filter (λ (v : ℕ). leb v c.args.to) (filter (λ (v : ℕ). ltb from v) l) in
    c.put_writes.ensures
    ∙ ap (λ (l : List ℕ). fold (step trace.writes) c.args.bytes.now l)
    (c.places_between-writes.ensures.places ∙ ap between c.part.ensures)
    ∙ ap (λ (b : List ℕ). fold (step trace.writes) b (between (places_in c.args.self.now.touches c.args.page)))
    c.requires.bytes
    ∙ later_page trace c.args.self.now c.args.page from c.args.to c.shape.ensures.is_trace c.requires.of c.requires.page
    c.requires.later (omega (arith, c.requires.later, c.requires.version))

pub returns-clause-writes : goal.returns-clause-writes
returns-clause-writes g c =
    c.places_between-writes.ensures.count
    ∙ ap (λ (l : List ℕ). length (filter (λ (v : ℕ). leb v c.args.to) l))
    (c.part.ensures ∙ places_of_index c.args.self.now (g.W.WriteLog.trace c.args.trace.now) c.args.page
    c.requires.of)
