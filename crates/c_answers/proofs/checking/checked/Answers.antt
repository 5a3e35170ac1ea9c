use Rattle.std.proofs.Common.{List, ℕ, subst, sym}
use Rattle.std.proofs.lemmas.Result.{err_from_is_err_and}
use Rattle.migration_model.specs.Trace.{Spells}
use Rattle.trace_codec.specs.Refusals.{RefusesUnlessMemory}
use Rattle.c_answers.specs.StreamChecks.{RefusesStreams}
use Rattle.c_answers.proofs.checking.checked.Goals as goal

pub returns-in_err-held-clause-refused : goal.returns-in_err-held-clause-refused
returns-in_err-held-clause-refused c =
    let p = err_from_is_err_and c.from_residual-in_err-held.result c.from_residual-in_err-held.ensures.1 in
    rw p.1 (subst (RefusesStreams c.args.trace.now c.args.stop c.args.bytes.now c.args.sizes.now) (sym p.2) (
      c.in_ok-test_sizes.ensures.whole,
      subst (λ (t : List ℕ). RefusesUnlessMemory t c.in_err-held.field-0.0) c.in_ok-from_slice.ensures.items
          c.in_err-held.ensures.refused,
    ))

pub returns-in_err-check_streams-clause-refused : goal.returns-in_err-check_streams-clause-refused
returns-in_err-check_streams-clause-refused c =
    let p = err_from_is_err_and c.from_residual-in_err-check_streams.result
    c.from_residual-in_err-check_streams.ensures.1 in
    rw p.1 (subst (RefusesStreams c.args.trace.now c.args.stop c.args.bytes.now c.args.sizes.now) (sym p.2) (record {
      guest = c.in_ok-held.held;
      spells = subst (λ (t : List ℕ). Spells t c.in_ok-held.held) c.in_ok-from_slice.ensures.items
          c.in_ok-held.ensures.found;
      sizes_are = c.in_ok-test_sizes.ensures.whole;
      first = c.in_err-check_streams.ensures.wrong;
    }))
