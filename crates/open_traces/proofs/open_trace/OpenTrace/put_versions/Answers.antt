use Rattle.std.proofs.Common.{◌≡◌, ◌∙◌, ◌+◌, ◌-◌, ◌<◌, inl, inr, ap, get_or, length, refl, arith}
use Rattle.std.proofs.lemmas.Bool.{cases_lt}
use Rattle.migration_model.specs.Trace.{GuestWrite, IsGuestWrite}
use Rattle.guest_log.specs.Writes.{no_write}
use Rattle.open_traces.proofs.PageWalks.{ArePutTo-all, ArePutTo-next, ArePutTo-none}
use Rattle.open_traces.proofs.open_trace.OpenTrace.put_versions.Goals as goal

pub loop-place-init : goal.loop-place-init
loop-place-init c = ArePutTo-none c.args.self.now c.fill.new.self c.args.versions.now c.requires
    (c.fill.ensures.after (λ y is. is))

pub loop-place-preserved : goal.loop-place-preserved
loop-place-preserved c =
    let at = c.loop-place in
    let trace = c.args.self.now in
    let low : at.place < length trace.writes = omega (
      arith,
      c.loop-place-test.true,
      c.min-place-end.ensures,
      c.shape-shape.ensures.writes,
    ) in
    let write : GuestWrite = get_or trace.writes at.place no_write in
    let fits : IsGuestWrite trace.version trace.shift trace.pages write =
    c.shape-shape.ensures.is_trace.writes.each at.place no_write low in
    let index : at.place + 1 - 1 ≡ at.place = omega arith in
    let own : c.page.result ≡ write.page = c.page.ensures
    ∙ ap (λ k. (get_or trace.writes k no_write).page) index in
    ArePutTo-next trace at.place c.page.result _ at.versions at.invariant low own (omega (arith, own, fits.page)) refl

pub returns : goal.returns
returns c =
    let at = c.loop-place in
    let trace = c.args.self.now in
    elim (cases_lt c.args.count (length trace.writes)) [
      | inl less ↦
          let same : at.place ≡ c.args.count = omega (
            arith,
            less,
            c.loop-place-test.false,
            at.auto.place-end,
            c.min-place-end.ensures,
            c.shape-shape.ensures.writes,
          ) in
          ArePutTo-all trace c.args.count at.place at.versions at.invariant (inl same)
      | inr all ↦
          let same : at.place ≡ length trace.writes = omega (
            arith,
            all,
            c.loop-place-test.false,
            at.auto.place-end,
            c.min-place-end.ensures,
            c.shape-shape.ensures.writes,
          ) in
          ArePutTo-all trace c.args.count at.place at.versions at.invariant (inr (same, omega (arith, same, all)))
    ]
