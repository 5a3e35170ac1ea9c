use Rattle.std.proofs.Common.{◌<◌, ap, arith, ◌∙◌}
use Rattle.std.proofs.lemmas.Result.{err_from_is_err_and}
use Rattle.migration_model.specs.TraceReading.{write_in}
use Rattle.trace_codec.specs.Reading.{ReaderState}
use Rattle.trace_codec.proofs.Readers.{read_count, reads_on, read_refused, refusal_is, rest_is, state_more}
use Rattle.trace_codec.proofs.Steps.{IsRight-from_none}
use Rattle.trace_codec.proofs.reader.TraceReader.read_record.Goals as goal

pub returns-in_err-write-clause-refused : goal.returns-in_err-write-clause-refused
returns-in_err-write-clause-refused c =
    let inside = c.self.inside in
    let read = read_count c.args.self.now _ _ _ _ _ _ c.self.view_is in
    let count = ap (λ (s : ReaderState). s.count) c.self.view_is in
    let bytes = ap (λ (s : ReaderState). s.bytes) c.self.view_is in
    let more : inside.index < inside.header.shape.writes = omega (arith, c.requires, read, count) in
    let p = err_from_is_err_and c.from_residual.result c.from_residual.ensures.1 in
    rw (p.1, p.2, ← bytes) (read_refused _ _ _ _ _ _ _ _ _ c.self.invariant more c.in_err-write.ensures.refused)

pub invariant_of-self : goal.invariant_of-self
invariant_of-self c =
    let inside = c.self.inside in
    let read = read_count c.args.self.now _ _ _ _ _ _ c.self.view_is in
    let count = ap (λ (s : ReaderState). s.count) c.self.view_is in
    let more : inside.index < inside.header.shape.writes = omega (arith, c.requires, read, count) in
    rw (c.in_ok-write.ensures.tick, c.in_ok-write.ensures.rest)
    (reads_on _ _ _ _ _ _ _ _ c.self.invariant more c.in_ok-write.ensures.accepted)

pub returns-clause-read : goal.returns-clause-read
returns-clause-read c = state_more c.args.self.now _ _ _ _ _ _ _ _ _ c.self.invariant c.self.view_is
    c.in_ok-write.ensures.write

pub returns-clause-fits : goal.returns-clause-fits
returns-clause-fits c =
    let version = ap (λ (s : ReaderState). s.version) c.self.view_is in
    let shift = ap (λ (s : ReaderState). s.shift) c.self.view_is in
    let pages = ap (λ (s : ReaderState). s.pages) c.self.view_is in
    rw (c.in_ok-write.ensures.write, ← version, ← shift, ← pages)
    (IsRight-from_none c.self.inside.header.version c.self.inside.header.shape.shift c.self.inside.header.shape.pages
    c.self.inside.last c.self.inside.index c.self.inside.rest.now c.in_ok-write.ensures.accepted).fits

pub returns-clause-order : goal.returns-clause-order
returns-clause-order c =
    let inside = c.self.inside in
    let read = read_count c.args.self.now _ _ _ _ _ _ c.self.view_is in
    let count = ap (λ (s : ReaderState). s.count) c.self.view_is in
    let more : inside.index < inside.header.shape.writes = omega (arith, c.requires, read, count) in
    let version = ap (λ (s : ReaderState). s.version) c.self.view_is in
    let shift = ap (λ (s : ReaderState). s.shift) c.self.view_is in
    let pages = ap (λ (s : ReaderState). s.pages) c.self.view_is in
    let writes = ap (λ (s : ReaderState). s.writes) (state_more c.args.self.now _ _ _ _ _ _ _ _ _ c.self.invariant
    c.self.view_is c.in_ok-write.ensures.write) in
    rw (← writes, ← version, ← shift, ← pages) (reads_on _ _ _ _ _ _ _ _ c.self.invariant more
    c.in_ok-write.ensures.accepted).reads.fit

pub returns-in_err-write-clause-first : goal.returns-in_err-write-clause-first
returns-in_err-write-clause-first c =
    let p = err_from_is_err_and c.from_residual.result c.from_residual.ensures.1 in
    rw (p.1, p.2) (refusal_is c.args.self.now _ _ _ _ _ _ _ _ c.self.invariant c.self.view_is
    ∙ c.in_err-write.ensures.refused)

pub returns-clause-front : goal.returns-clause-front
returns-clause-front c = c.in_ok-write.ensures.write
    ∙ ap write_in (rest_is c.args.self.now _ _ _ _ _ _ _ _ c.self.invariant c.self.view_is)

pub returns-clause-accepted : goal.returns-clause-accepted
returns-clause-accepted c = refusal_is c.args.self.now _ _ _ _ _ _ _ _ c.self.invariant c.self.view_is
    ∙ c.in_ok-write.ensures.accepted
