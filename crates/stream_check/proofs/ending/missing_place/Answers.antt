use Rattle.std.proofs.Common.{ℕ, ◌≤◌, List, leb, length, get_or, sym, ap, subst, ◌∙◌}
use Rattle.std.specs.List.{filter}
use Rattle.std.specs.List.Sorted.{IsNonDecreasing}
use Rattle.stream_check.proofs.Missing.{after_rise, missing_within}
use Rattle.stream_check.proofs.ending.missing_place.Goals as goal

pub first_to-requires : goal.first_to-requires
first_to-requires g c =
    subst IsNonDecreasing (sym c.writes_after.ensures.own)
    (after_rise c.args.index.now c.args.page c.unwrap_or.result)

pub returns-clause-within : goal.returns-clause-within
returns-clause-within g c =
    let trace = g.W.WriteLog.trace c.args.trace.now in
    subst (λ (v : ℕ). v ≤ length trace.writes) (sym (c.first_to.ensures
    ∙ ap (λ (l : List ℕ). get_or (filter (λ v. leb v c.args.stop) l) 0 0) c.writes_after.ensures.own))
    (missing_within trace c.args.index.now c.args.page c.unwrap_or.result c.args.stop c.requires.of)
