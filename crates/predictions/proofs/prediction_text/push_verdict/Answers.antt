use Rattle.std.proofs.Common.{◌≡◌, ◌∙◌, List, ℕ, [], ◌∷◌, ◌++◌, ap, subst, append_assoc}
use Rattle.std.proofs.lemmas.List.{append-nil}
use Rattle.std.specs.Prelude.{codes}
use Rattle.predictions.specs.Agreements.Texts.{converging_words}
use Rattle.predictions.specs.Predictions.{GuestPrediction, MigrationCost, verdict_word}
use Rattle.predictions.specs.Texts.{ending_words, verdict_line}
use Rattle.sweep_report.specs.Lines.{line}
use Rattle.predictions.proofs.prediction_text.push_verdict.Goals as goal

in_a_row : (old a b c d n1 n2 n3 n4 : List ℕ) → n1 ≡ old ++ (a ++ b) → n2 ≡ n1 ++ c → n3 ≡ n2 ++ d
    → n4 ≡ n3 ++ 10 ∷ [] → n4 ≡ old ++ line (a ∷ b ∷ c ∷ d ∷ [])
in_a_row old a b c d n1 n2 n3 n4 e1 e2 e3 e4 = rw (e4, e3, e2, e1) (simp (append_assoc, append-nil))

pub returns : goal.returns
returns c =
    let C : GuestPrediction → Type 0 = λ p. c.end_line.new.text.items ≡ c.args.text.now.items
    ++ verdict_line c.args.agreement.now c.args.verdict p in
    let steps : c.cost.inside.steps ≡ c.prediction.inside.cost.steps =
    ap (λ (m : MigrationCost). m.steps) c.cost.view_is in
    let words : ℕ → List ℕ = ending_words c.prediction.inside.manner c.prediction.inside.ending in
    subst C c.prediction.view_is
    (in_a_row c.args.text.now.items (codes "converges: ") (verdict_word c.args.verdict)
    (converging_words c.args.agreement.now) (words c.prediction.inside.cost.steps) c.push_answer.new.text.items
    c.push_converging.new.text.items c.push_ending.new.text.items c.end_line.new.text.items
    c.in_ok-push_answer.ensures c.in_ok-push_converging.ensures
    (c.in_ok-push_ending.ensures ∙ ap (λ (n : ℕ). c.push_converging.new.text.items ++ words n) steps)
    c.in_ok-end_line.ensures)
