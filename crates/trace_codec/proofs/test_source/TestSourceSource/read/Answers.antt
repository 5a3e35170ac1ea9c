use Rattle.std.proofs.Common.{ap, refl, arith, ◌∙◌, ◌≡◌, ◌+◌, ◌-◌, length}
use Rattle.trace_codec.specs.Source.{SourceState}
use Rattle.trace_codec.proofs.Sources.{reads_from_memory}
use Rattle.trace_codec.proofs.test_source.TestSourceSource.read.Goals as goal

pub returns-clause-bytes : goal.returns-clause-bytes
returns-clause-bytes c =
    let state = ap (λ (s : SourceState). s.remaining) c.self.view_is in
    let inside = c.self.inside in
    let n = c.min-count.result in
    let size : inside.bytes.len ≡ length inside.bytes.items = inside.bytes.ok.0 in
    let whole = c.deref.ensures.value in
    let span : inside.taken + n - inside.taken ≡ n = omega arith in
    rw (← state) (reads_from_memory inside.bytes.items c.args.buffer.now c.copy_from_slice.new.self inside.taken n
    (omega arith) (omega (arith, size, c.self.invariant)) (c.copy_from_slice.ensures.after ∙ rw (whole, span) refl)
    (λ none room. omega (arith, size, c.self.invariant)))
