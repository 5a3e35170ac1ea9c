use Rattle.std.proofs.Common.{subst, ◌∙◌}
use Rattle.dirty_core.specs.Start.{Start, IsStart}
use Rattle.dirty_words.proofs.Openings.{Shows-opened}
use Rattle.dirty_words.proofs.table.RoundTable.open.Goals as goal

pub of_words-requires : goal.of_words-requires
of_words-requires c = Shows-opened c.args.opening c.deref.result.now
    (subst (λ (k : Start). IsStart k) c.opening.view_is c.opening.invariant)
    (c.deref.ensures.value ∙ c.in_ok-words.ensures.words) c.in_ok-words.ensures.small
