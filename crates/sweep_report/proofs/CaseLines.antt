-- The lines of some cases, one after another.
use Rattle.std.proofs.Common.{◌≡◌, ℕ, ◌+◌, ◌<◌, ◌≤◌, List, [], ◌∷◌, ◌++◌, length, get_or, take, sym, ap, ◌∙◌}
use Rattle.std.proofs.Common.{append_assoc, arith}
use Rattle.std.specs.List.{flat_map, enumerate_from}
use Rattle.std.proofs.lemmas.List.{take_more, take_all, append-nil}
use Rattle.std.proofs.lemmas.List.Concat.{flat_map-append}
use Rattle.std.proofs.lemmas.List.FromFn.{length-enumerate_from, get_or-enumerate_from}
use Rattle.migration_model.specs.Sweeps.{SweepLine}
use Rattle.sweep_report.specs.Lines.{case_line}
use Rattle.sweep_report.specs.Texts.{case_lines}

-- the lines of the first `n` cases
abbrev pub first_cases : ℕ → List SweepLine → List ℕ
first_cases n lines = flat_map (λ (at : ℕ × SweepLine). case_line at.0 at.1) (take n (enumerate_from 0 lines))

pub one_case_more : (n : ℕ) (lines : List SweepLine) (case : SweepLine) (old so_far new : List ℕ) → n < length lines
    → case ≡ get_or lines n case
    → so_far ≡ old ++ first_cases n lines → new ≡ so_far ++ case_line n case → new ≡ old ++ first_cases (n + 1) lines
one_case_more n lines case old so_far new low is before made =
    let all = enumerate_from 0 lines in
    let text : ℕ × SweepLine → List ℕ = λ at. case_line at.0 at.1 in
    let place : 0 + n ≡ n = omega arith in
    let there : get_or all n (0, case) ≡ (n, case) = get_or-enumerate_from 0 lines n (0, case) low
    ∙ (λ i. (place i, sym is i)) in
    let more : take (n + 1) all ≡ take n all ++ (n, case) ∷ [] =
    take_more all n (0, case) (omega (arith, length-enumerate_from 0 lines))
    ∙ ap (λ (x : ℕ × SweepLine). take n all ++ x ∷ []) there in
    let step : first_cases (n + 1) lines ≡ first_cases n lines ++ case_line n case =
    ap (flat_map text) more ∙ flat_map-append text (take n all) ((n, case) ∷ [])
    ∙ ap (λ (l : List ℕ). first_cases n lines ++ l) (append-nil (case_line n case)) in
    made ∙ ap (λ (l : List ℕ). l ++ case_line n case) before ∙ append_assoc old (first_cases n lines) (case_line n case)
    ∙ ap (λ (l : List ℕ). old ++ l) (sym step)

pub all_cases : (n : ℕ) (lines : List SweepLine) → length lines ≤ n → first_cases n lines ≡ case_lines lines
all_cases n lines high =
    ap (flat_map (λ (at : ℕ × SweepLine). case_line at.0 at.1))
    (take_all n (enumerate_from 0 lines) (omega (arith, length-enumerate_from 0 lines)))
