use Rattle.std.proofs.Common.{◌≡◌, ◌∙◌, List, ℕ, ◌++◌, ap, append_assoc}
use Rattle.predictions.specs.Agreements.{sure_kept, sure_verdict}
use Rattle.predictions.specs.Predictions.{GuestPrediction, MigrationCost}
use Rattle.predictions.specs.Texts.{cost_lines, verdict_line}
use Rattle.predictions.specs.declared.verdict.Verdict.{Verdict}
use Rattle.predictions.proofs.prediction_text.push_facts.Goals as goal

in_a_row : (old a b n1 n2 : List ℕ) → n1 ≡ old ++ a → n2 ≡ n1 ++ b → n2 ≡ old ++ (a ++ b)
in_a_row old a b n1 n2 e1 e2 = rw (e2, e1) (append_assoc old a b)

pub returns : goal.returns
returns c =
    let a = c.args.agreement.now in
    let p = c.args.prediction.now in
    let limit = c.args.limit in
    let errors = c.args.errors.now in
    let old = c.args.text.now.items in
    let n1 = c.push_verdict.new.text.items in
    let cost : c.prediction.inside.cost ≡ p.cost = ap (λ (q : GuestPrediction). q.cost) c.prediction.view_is in
    in_a_row old (verdict_line a (sure_verdict a p) p) (cost_lines limit a (sure_kept limit a p.cost errors) p.cost)
    n1 c.push_cost.new.text.items
    (c.in_ok-push_verdict.ensures ∙ ap (λ (v : Verdict). old ++ verdict_line a v p) c.verdict-converges.ensures)
    (c.in_ok-push_cost.ensures
    ∙ ap (λ (v : Verdict). n1 ++ cost_lines limit a v c.prediction.inside.cost) c.kept-kept.ensures
    ∙ ap (λ (m : MigrationCost). n1 ++ cost_lines limit a (sure_kept limit a m errors) m) cost)
