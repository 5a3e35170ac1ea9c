use Rattle.std.proofs.Common.{inl}
use Rattle.std.proofs.lemmas.Result.{IfOk-weaker, MatchResult-weaker}
use Rattle.trace_codec.proofs.Never.{only_found}
use Rattle.trace_codec.proofs.Sources.{Consumes-nil, refused_source, only_whole, spelled_whole}
use Rattle.trace_readers.proofs.held_trace.HeldTrace.read.Goals as goal

pub returns-clause-found : goal.returns-clause-found
returns-clause-found g c =
    let whole = c.in_ok-text.ensures.whole _ (rw c.new.ensures.items (Consumes-nil _)) in
    IfOk-weaker c.of_text.result _ _ (λ trace spells. spelled_whole _ _ c.in_ok-text.text trace whole spells)
    c.of_text.ensures.found

pub returns-clause-refused : goal.returns-clause-refused
returns-clause-refused g c =
    let whole = c.in_ok-text.ensures.whole _ (rw c.new.ensures.items (Consumes-nil _)) in
    refused_source c.of_text.result _ _ c.in_ok-text.text whole c.of_text.ensures.refused

pub returns-clause-only : goal.returns-clause-only
returns-clause-only g c bytes trace is spells =
    let whole = c.in_ok-text.ensures.whole _ (rw c.new.ensures.items (Consumes-nil _)) in
    let read = only_whole _ _ bytes c.in_ok-text.text trace is spells whole in
    MatchResult-weaker c.of_text.result (only_found c.in_ok-text.text c.of_text.result c.of_text.ensures.found
    c.of_text.ensures.refused trace read) (λ x same. same) (λ e memory. inl memory)
