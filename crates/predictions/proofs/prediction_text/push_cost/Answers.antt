use Rattle.std.proofs.Common.{◌≡◌, ◌∙◌, List, ℕ, [], ◌∷◌, ◌++◌, ap, append_assoc}
use Rattle.std.specs.Prelude.{codes}
use Rattle.predictions.specs.Predictions.{MigrationCost}
use Rattle.predictions.specs.Quantities.{bytes_text}
use Rattle.predictions.specs.Texts.{downtime_line, time_line}
use Rattle.sweep_report.specs.Lines.{line}
use Rattle.predictions.proofs.prediction_text.push_cost.Goals as goal

in_a_row : (old a b c n1 n2 n3 : List ℕ) → n1 ≡ old ++ a → n2 ≡ n1 ++ b → n3 ≡ n2 ++ c → n3 ≡ old ++ (a ++ (b ++ c))
in_a_row old a b c n1 n2 n3 e1 e2 e3 = rw (e3, e2, e1) (simp append_assoc)

pub returns : goal.returns
returns c =
    let same = c.cost.view_is in
    let cost = c.args.cost.now in
    let time : c.cost.inside.time ≡ cost.time = ap (λ (m : MigrationCost). m.time) same in
    let bytes : c.cost.inside.bytes ≡ cost.bytes = ap (λ (m : MigrationCost). m.bytes) same in
    let down : c.cost.inside.downtime ≡ cost.downtime = ap (λ (m : MigrationCost). m.downtime) same in
    let sent : ℕ → List ℕ = λ n. line (codes "sent: " ∷ bytes_text n ∷ []) in
    let downtime : ℕ → List ℕ = downtime_line c.args.limit c.args.agreement.now c.args.kept in
    let old = c.args.text.now.items in
    let n1 = c.push_time_line.new.text.items in
    let n2 = c.push_sent.new.text.items in
    in_a_row old (time_line cost.time) (sent cost.bytes) (downtime cost.downtime) n1 n2
    c.push_downtime.new.text.items
    (c.in_ok-push_time_line.ensures ∙ ap (λ (n : ℕ). old ++ time_line n) time)
    (c.in_ok-push_sent.ensures ∙ ap (λ (n : ℕ). n1 ++ sent n) bytes)
    (c.in_ok-push_downtime.ensures ∙ ap (λ (n : ℕ). n2 ++ downtime n) down)
