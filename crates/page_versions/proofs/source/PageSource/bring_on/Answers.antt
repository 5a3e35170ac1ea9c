use Rattle.std.proofs.Common.{◌≡◌, ℕ, ◌^◌, ◌<◌, ◌≤◌, leb, ltb, List, length, sym, ap, ◌∙◌, arith}
use Rattle.std.specs.List.{between, filter}
use Rattle.std.proofs.lemmas.List.{length-map}
use Rattle.migration_model.specs.Trace.{GuestTrace}
use Rattle.migration_model.specs.Versions.{page_at}
use Rattle.migration_model.proofs.Pages.{length-page_at}
use Rattle.page_versions.specs.Index.{places_of}
use Rattle.page_versions.specs.Pages.{put_all}
use Rattle.page_versions.proofs.Later.{later_page}
use Rattle.page_versions.proofs.Places.{places_rise}
use Rattle.page_versions.specs.Copies.{copy_of, put_copies}
use Rattle.page_versions.proofs.Copied.{between_mapped, copies_put, copies_within, places_bound, source_copies}
use Rattle.page_versions.proofs.source.PageSource.bring_on.Goals as goal

pub run_between-start-requires : goal.run_between-start-requires
run_between-start-requires g c =
    rw c.places.ensures.own (places_rise c.self.inside.index.now.touches c.args.page)

pub put_run-requires-clause-bound : goal.put_run-requires-clause-bound
put_run-requires-clause-bound g c =
    let trace = g.W.WriteLog.trace c.self.inside.trace.now in
    let own = source_copies trace c.args.self.now c.args.page c.index-writes.result.now c.self.view_is c.requires.page
    c.in-Some.is c.self.invariant.1 c.packed.view_is c.index-writes.ensures in
    omega (
      arith,
      c.run_between-start.ensures.bound,
      ap length (c.places.ensures.of_trace trace c.self.invariant.0),
      ap length own,
      length-map (places_of trace c.args.page) (copy_of trace),
    )

pub put_run-requires-clause-within : goal.put_run-requires-clause-within
put_run-requires-clause-within g c =
    let trace = g.W.WriteLog.trace c.self.inside.trace.now in
    let own = source_copies trace c.args.self.now c.args.page c.index-writes.result.now c.self.view_is c.requires.page
    c.in-Some.is c.self.invariant.1 c.packed.view_is c.index-writes.ensures in
    rw (own, c.shape.ensures.shift)
    (copies_within trace (places_of trace c.args.page) c.shape.ensures.is_trace (places_bound trace c.args.page))

pub put_run-requires-clause-room : goal.put_run-requires-clause-room
put_run-requires-clause-room g c =
    let trace = g.W.WriteLog.trace c.self.inside.trace.now in
    let low : c.args.page < trace.pages =
    omega (arith, c.requires.page, ap (λ (t : GuestTrace). t.pages) c.self.view_is) in
    ap length c.requires.bytes
    ∙ ap (λ (t : GuestTrace). length (page_at t c.args.page c.args.from.version)) (sym c.self.view_is)
    ∙ length-page_at trace c.args.page c.args.from.version c.shape.ensures.is_trace low
    ∙ ap (λ (n : ℕ). 2 ^ n) (sym c.shape.ensures.shift)

pub returns-clause-bytes : goal.returns-clause-bytes
returns-clause-bytes g c =
    let trace = g.W.WriteLog.trace c.self.inside.trace.now in
    let own = source_copies trace c.args.self.now c.args.page c.index-writes.result.now c.self.view_is c.requires.page
    c.in-Some.is c.self.invariant.1 c.packed.view_is c.index-writes.ensures in
    let low : c.args.page < trace.pages =
    omega (arith, c.requires.page, ap (λ (t : GuestTrace). t.pages) c.self.view_is) in
    let page = c.args.page in
    let from = c.args.from.version in
    let to = c.args.to in
    let start = c.run_between-start.result.0 in
    let end = c.run_between-start.result.1 in
    let before : List ℕ = page_at trace page from in
    let bytes : c.args.bytes.now ≡ before = c.requires.bytes
    ∙ ap (λ (t : GuestTrace). page_at t page from) (sym c.self.view_is) in
    let within : from ≤ length trace.writes = omega (
      arith,
      c.requires.later,
      c.requires.version,
      ap (λ (t : GuestTrace). length t.writes) c.self.view_is,
    ) in
    let chosen : List ℕ → List ℕ = λ l. filter (λ (v : ℕ). leb v to) (filter (λ (v : ℕ). ltb from v) l) in
    c.put_run.ensures
    ∙ (λ j. put_copies (c.shape.ensures.shift j) (bytes j) (between start end (own j)))
    ∙ ap (put_copies trace.shift before) (between_mapped (copy_of trace) start end (places_of trace page))
    ∙ copies_put trace before (between start end (places_of trace page))
    ∙ ap (λ (l : List ℕ). put_all trace before (between start end l))
    (sym (c.places.ensures.of_trace trace c.self.invariant.0))
    ∙ ap (put_all trace before) c.run_between-start.ensures.run
    ∙ ap (λ (l : List ℕ). put_all trace before (chosen l)) c.places.ensures.own
    ∙ later_page trace c.self.inside.index.now page from to c.shape.ensures.is_trace c.self.invariant.0
    (omega (arith, low, c.self.invariant.0.0)) c.requires.later within
    ∙ ap (λ (t : GuestTrace). page_at t page to) c.self.view_is
