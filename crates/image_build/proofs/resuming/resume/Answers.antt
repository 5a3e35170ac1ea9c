use Rattle.std.proofs.Common.{◌≡◌, ℕ, ◌*◌, ◌^◌, ◌≤◌, length, get_or, ◌∙◌, arith}
use Rattle.std.proofs.lemmas.List.Elements.{All-filter}
use Rattle.migration_model.specs.Memory.{memory_with}
use Rattle.page_versions.proofs.Pages.{places_fit, writes_at_places}
use Rattle.image_build.proofs.Resumed.{Resumes-next, whole-from_all}
use Rattle.image_build.proofs.resuming.resume.Goals as goal

pub write_all-requires-clause-places : goal.write_all-requires-clause-places
write_all-requires-clause-places g c =
    let trace = g.W.WriteLog.trace c.args.trace.now in
    rw c.writes_after.ensures.own
    (All-filter _ (λ (place : ℕ). (1 ≤ place) × (place ≤ length trace.writes)) _
    (places_fit trace c.args.index.now c.loop-page.page c.requires.of))

pub loop-page-preserved : goal.loop-page-preserved
loop-page-preserved g c =
    let trace = g.W.WriteLog.trace c.args.trace.now in
    let shape = c.shape-shape.ensures in
    let page = c.loop-page.page in
    let version = get_or c.args.versions.now page 0 in
    let len : length c.args.image.bytes ≡ trace.pages * 2 ^ trace.shift =
    rw (c.requires.shift, c.requires.pages) at c.into_bytes-memory.ensures.is_memory.len in
    let added = rw c.writes_after.ensures.own at c.write_all.ensures in
    Resumes-next trace c.args.versions.now c.args.image.bytes page c.loop-page.memory.items c.write_all.new.memory.items
    shape.is_trace len
    (omega (arith, c.loop-page-test.true, shape.pages)) c.loop-page.invariant
    (added ∙ writes_at_places trace c.args.index.now page version
    (memory_with trace.shift trace.pages c.loop-page.memory.items) c.requires.of)

pub returns-clause-whole : goal.returns-clause-whole
returns-clause-whole g c =
    let trace = g.W.WriteLog.trace c.args.trace.now in
    let shape = c.shape-shape.ensures in
    let len : length c.args.image.bytes ≡ trace.pages * 2 ^ trace.shift =
    rw (c.requires.shift, c.requires.pages) at c.into_bytes-memory.ensures.is_memory.len in
    let last : c.loop-page.page ≡ trace.pages = omega (
      arith,
      c.loop-page-test.false,
      c.loop-page.auto.page-end,
      shape.pages,
    ) in
    whole-from_all trace c.args.versions.now c.args.image.bytes c.loop-page.memory.items c.args.image c.of.result
    shape.is_trace len
    (λ i. memory_with (c.requires.shift i) (c.requires.pages i) c.args.image.bytes)
    (rw (shape.shift, shape.pages) at c.of.ensures) (rw last at c.loop-page.invariant)
