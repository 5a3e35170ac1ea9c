use Rattle.std.proofs.Common.{◌≡◌, ◌<◌, length, ap, arith, refl, sym, subst, ◌∙◌}
use Rattle.std.proofs.lemmas.Bool.{eqb-false, eqb-true}
use Rattle.std.proofs.lemmas.List.{nil_from_length}
use Rattle.migration_model.specs.Trace.{Spells, trace_with}
use Rattle.trace_codec.specs.Reading.{ReaderState}
use Rattle.trace_codec.proofs.Readers.{read_count, end_refused, end_spelled, rest_is}
use Rattle.trace_codec.proofs.reader.TraceReader.finish.Goals as goal

pub returns-then-not-is_empty-clause-refused : goal.returns-then-not-is_empty-clause-refused
returns-then-not-is_empty-clause-refused c =
    let inside = c.self.inside in
    let read = read_count c.args.self _ _ _ _ _ _ c.self.view_is in
    let count = ap (λ (s : ReaderState). s.count) c.self.view_is in
    let bytes = ap (λ (s : ReaderState). s.bytes) c.self.view_is in
    let all : inside.index ≡ inside.header.shape.writes = omega (arith, c.requires, read, count) in
    let filled : length inside.rest.now ≡ 0 → ⊥ = eqb-false _ _ (sym c.is_empty.ensures ∙ c.if-not-is_empty.true) in
    let more : 0 < length inside.rest.now = omega (arith, filled) in
    rw (← bytes) (end_refused _ _ _ _ _ _ _ inside.rest.now c.self.invariant all more)

pub returns-clause-spelled : goal.returns-clause-spelled
returns-clause-spelled c =
    let inside = c.self.inside in
    let read = read_count c.args.self _ _ _ _ _ _ c.self.view_is in
    let count = ap (λ (s : ReaderState). s.count) c.self.view_is in
    let all : inside.index ≡ inside.header.shape.writes = omega (arith, c.requires, read, count) in
    subst (λ (s : ReaderState). Spells s.bytes (trace_with s.version s.shift s.pages s.writes)) c.self.view_is
    (end_spelled _ _ _ _ _ _ _ inside.rest.now c.self.invariant all
    (eqb-true _ _ (sym c.is_empty.ensures ∙ c.if-not-is_empty.false)))

pub returns-then-not-is_empty-clause-trailing : goal.returns-then-not-is_empty-clause-trailing
returns-then-not-is_empty-clause-trailing c =
    let filled : length c.self.inside.rest.now ≡ 0 → ⊥ = eqb-false _ _
    (sym c.is_empty.ensures ∙ c.if-not-is_empty.true) in
    let rest = rest_is c.args.self _ _ _ _ _ _ _ c.self.inside.rest.now c.self.invariant c.self.view_is in
    (λ none. filled (ap length (rest ∙ none)), refl)

pub returns-clause-whole : goal.returns-clause-whole
returns-clause-whole c =
    sym (rest_is c.args.self _ _ _ _ _ _ _ c.self.inside.rest.now c.self.invariant c.self.view_is)
    ∙ nil_from_length c.self.inside.rest.now (eqb-true _ _ (sym c.is_empty.ensures ∙ c.if-not-is_empty.false))
