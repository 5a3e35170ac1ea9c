-- Lines of rounds, one more at a time.
use Rattle.std.proofs.Common.{◌≡◌, ℕ, ◌+◌, ◌<◌, ◌≤◌, List, [], ◌∷◌, ◌++◌, length, get_or, take, sym, ap, ◌∙◌}
use Rattle.std.proofs.Common.{append_assoc, arith}
use Rattle.std.specs.List.{flat_map, enumerate_from}
use Rattle.std.proofs.lemmas.List.{take_more, take_all, append-nil}
use Rattle.std.proofs.lemmas.List.Concat.{flat_map-append}
use Rattle.std.proofs.lemmas.List.FromFn.{length-enumerate_from, get_or-enumerate_from}
use Rattle.migration_model.specs.Rounds.{PlannedRound}
use Rattle.sweep_report.specs.Lines.{round_line}
use Rattle.sweep_report.specs.Texts.{round_lines}

-- the lines of the first `n` rounds
abbrev pub first_lines : ℕ → List PlannedRound → List ℕ
first_lines n rounds = flat_map (λ (at : ℕ × PlannedRound). round_line at.0 at.1) (take n (enumerate_from 0 rounds))

pub one_line_more : (n : ℕ) (rounds : List PlannedRound) (round : PlannedRound) (old so_far new : List ℕ)
    → n < length rounds → round ≡ get_or rounds n round
    → so_far ≡ old ++ first_lines n rounds → new ≡ so_far ++ round_line n round
    → new ≡ old ++ first_lines (n + 1) rounds
one_line_more n rounds round old so_far new low is before made =
    let all = enumerate_from 0 rounds in
    let line : ℕ × PlannedRound → List ℕ = λ at. round_line at.0 at.1 in
    let place : 0 + n ≡ n = omega arith in
    let there : get_or all n (0, round) ≡ (n, round) = get_or-enumerate_from 0 rounds n (0, round) low
    ∙ (λ i. (place i, sym is i)) in
    let more : take (n + 1) all ≡ take n all ++ (n, round) ∷ [] =
    take_more all n (0, round) (omega (arith, length-enumerate_from 0 rounds))
    ∙ ap (λ (x : ℕ × PlannedRound). take n all ++ x ∷ []) there in
    let lines : first_lines (n + 1) rounds ≡ first_lines n rounds ++ round_line n round =
    ap (flat_map line) more ∙ flat_map-append line (take n all) ((n, round) ∷ [])
    ∙ ap (λ (l : List ℕ). first_lines n rounds ++ l) (append-nil (round_line n round)) in
    made ∙ ap (λ (l : List ℕ). l ++ round_line n round) before
    ∙ append_assoc old (first_lines n rounds) (round_line n round)
    ∙ ap (λ (l : List ℕ). old ++ l) (sym lines)

pub all_lines : (n : ℕ) (rounds : List PlannedRound) → length rounds ≤ n → first_lines n rounds ≡ round_lines rounds
all_lines n rounds high =
    ap (flat_map (λ (at : ℕ × PlannedRound). round_line at.0 at.1))
    (take_all n (enumerate_from 0 rounds) (omega (arith, length-enumerate_from 0 rounds)))
