use Rattle.std.proofs.Common.{◌≡◌, ℕ, List, length, subst}
use Rattle.migration_model.specs.Trace.{GuestTrace}
use Rattle.migration_model.proofs.Traces.{one_trace_lem}
use Rattle.stream_check.specs.Ends.{AreCurrentStamps}
use Rattle.stream_check.proofs.OneWrong.{none_behind}
use Rattle.open_checks.specs.Kept.{stamps_in}
use Rattle.c_answers.specs.OpenPieces.{RefusesOpenPages}
use Rattle.c_answers.specs.declared.open_pieces.OpenRefusal.{OpenRefusal}
use Rattle.c_answers.specs.declared.open_pieces.OpenRefusal.TheVariants as refusals
use Rattle.precopy_c.proofs.open_trace_checks.precopy_trace_check_pages.Goals as goal

not_refused : (t : GuestTrace) (stop : ℕ) (greatest : List ℕ) (refusal : OpenRefusal)
    → RefusesOpenPages t stop greatest refusal → length greatest ≡ t.pages
    → AreCurrentStamps t stop (stamps_in greatest) → ⊥
not_refused t stop greatest refusals.MemoryLength refused words current = refused
not_refused t stop greatest refusals.PageCount refused words current = refused words
not_refused t stop greatest (refusals.Frame found) refused words current = refused
not_refused t stop greatest (refusals.Page found) refused words current =
    none_behind t stop (stamps_in greatest) found current refused.1

pub returns-in-Err-clause-only : goal.returns-in-Err-clause-only
returns-in-Err-clause-only c = λ t shown words current.
    let same : t ≡ c.opened.result = one_trace_lem c.args.trace.now.bytes.now t c.opened.result shown.is_open.spells
    c.opened.ensures.is_open.spells in
    let greatest = c.args.greatest.now in
    let stop = c.args.progress.now.stop in
    absurd (not_refused c.opened.result stop greatest c.in-Err.refusal c.in-Err.ensures.refused
    (subst (λ (t : GuestTrace). length greatest ≡ t.pages) same words)
    (subst (λ (t : GuestTrace). AreCurrentStamps t stop (stamps_in greatest)) same current))
