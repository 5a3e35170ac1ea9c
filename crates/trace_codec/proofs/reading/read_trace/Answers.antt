use Rattle.std.proofs.Common.{inl}
use Rattle.std.proofs.lemmas.Result.{MatchResult-weaker}
use Rattle.trace_codec.proofs.Sources.{refused_source, only_whole}
use Rattle.trace_codec.proofs.reading.read_trace.Goals as goal

pub returns-clause-refused : goal.returns-clause-refused
returns-clause-refused g c =
    refused_source c.decode.result _ _ c.in_ok-bytes.bytes.items c.in_ok-bytes.ensures.whole
    (rw c.deref.ensures.value at c.decode.ensures.refused)

pub returns-clause-only : goal.returns-clause-only
returns-clause-only g c bytes trace is spells =
    let read = only_whole _ _ bytes c.in_ok-bytes.bytes.items trace is spells c.in_ok-bytes.ensures.whole in
    MatchResult-weaker c.decode.result (c.decode.ensures.only trace (rw c.deref.ensures.value read)) (λ x same. same)
    (λ e memory. inl memory)
