use Rattle.std.proofs.Common.{◌≡◌, ◌∙◌, List, ℕ, ap, subst, sym}
use Rattle.migration_model.specs.Memory.{GuestMemory, image_after}
use Rattle.open_checks.specs.Kept.{IsKept}
use Rattle.open_checks.proofs.BaseWords.{image_kept}
use Rattle.c_answers.proofs.unstamped.begin_before.Goals as goal

pub returns-clause-kept : goal.returns-clause-kept
returns-clause-kept c = λ words bytes.
    let trace = c.args.trace.now in
    let count : ℕ = c.open_count_before-count.result in
    let memory : c.open_replay_before.new.memory ≡ (image_after trace count).bytes =
    c.open_replay_before.ensures ∙ ap (λ (m : GuestMemory). m.bytes) (sym c.open_count_before-count.ensures.memory) in
    subst (λ (m : List ℕ). IsKept trace c.put_words.new.greatest m) (sym memory)
    (subst (λ (l : List ℕ). IsKept trace l (image_after trace count).bytes) (sym c.put_words.ensures)
    (image_kept trace count c.shape-shape.ensures.is_trace))
