-- Lines in the slots of their cases.
use Rattle.std.proofs.Common.{◌≡◌, ℕ, ◌+◌, ◌<◌, Option, None, List, [], ◌∷◌, ◌++◌, length, get_or, set, take}
use Rattle.std.proofs.Common.{sym, ap, subst, ◌∙◌, inl, inr, arith}
use Rattle.std.specs.Prelude.{IfSome}
use Rattle.std.proofs.lemmas.Bool.{cases_eq}
use Rattle.std.proofs.lemmas.List.{length-set, get_or-set_same, get_or-set_other}
use Rattle.std.proofs.lemmas.List.{take_more}
use Rattle.migration_model.specs.Rates.{MigrationSettings}
use Rattle.migration_model.specs.Sweeps.{SweepLine, IsLineOf, AreLines}
use Rattle.migration_model.specs.Touches.{GuestTouch}
use Rattle.sweep_report.specs.Sweeping.{AreTaken}

abbrev pub no_line : Option SweepLine
no_line = None

pub taken_set : (pages number : ℕ) (touches : List GuestTouch) (cases : List MigrationSettings)
    (taken new : List (Option SweepLine)) (x : Option SweepLine)
    → ((d : MigrationSettings) → IfSome x (IsLineOf pages touches (get_or cases number d))) → new ≡ set taken number x
    → AreTaken pages touches cases taken
    → AreTaken pages touches cases new
taken_set pages number touches cases taken new x line is before = record {
  len = omega (arith, ap length is, length-set taken number x, before.len);
  each = λ k d e low.
      let C : Option SweepLine → Type 0 = λ y. IfSome y (IsLineOf pages touches (get_or cases k d)) in
      elim (cases_eq k number) [
        | inl same ↦
            let here : get_or new k e ≡ x =
            ap (λ (l : List (Option SweepLine)). get_or l k e) is ∙ ap (λ j. get_or (set taken number x) j e) same
            ∙ get_or-set_same taken number x e (omega (arith, same, before.len)) in
            let at : IfSome x (IsLineOf pages touches (get_or cases k d)) =
            subst (λ j. IfSome x (IsLineOf pages touches (get_or cases j d))) (sym same) (line d) in
            subst C (sym here) at
        | inr other ↦
            let here : get_or new k e ≡ get_or taken k e = ap (λ (l : List (Option SweepLine)). get_or l k e) is
            ∙ get_or-set_other taken number k x e other in
            subst C (sym here) (before.each k d e low)
      ];
}

zip_more : (pages : ℕ) (touches : List GuestTouch) (cases : List MigrationSettings) (lines : List SweepLine)
    (case : MigrationSettings) (line : SweepLine)
    → AreLines pages touches cases lines → IsLineOf pages touches case line
    → AreLines pages touches (cases ++ case ∷ []) (lines ++ line ∷ [])
zip_more pages touches [] [] case line before is = (is, tt)
zip_more pages touches [] (l ∷ lines) case line before is = absurd before
zip_more pages touches (c ∷ cases) [] case line before is = absurd before
zip_more pages touches (c ∷ cases) (l ∷ lines) case line before is =
    (before.0, zip_more pages touches cases lines case line before.1 is)

pub lines_more : (pages n : ℕ) (touches : List GuestTouch) (cases : List MigrationSettings) (lines new : List SweepLine)
    (case : MigrationSettings) (line : SweepLine)
    → n < length cases → case ≡ get_or cases n case → new ≡ lines ++ line ∷ []
    → AreLines pages touches (take n cases) lines → IsLineOf pages touches case line
    → AreLines pages touches (take (n + 1) cases) new
lines_more pages n touches cases lines new case line low is pushed before made =
    let more : take (n + 1) cases ≡ take n cases ++ case ∷ [] = take_more cases n case low
    ∙ ap (λ (c : MigrationSettings). take n cases ++ c ∷ []) (sym is) in
    let C : List MigrationSettings → Type 0 = λ cs. AreLines pages touches cs new in
    let D : List SweepLine → Type 0 = λ ls. AreLines pages touches (take n cases ++ case ∷ []) ls in
    subst C (sym more) (subst D (sym pushed) (zip_more pages touches (take n cases) lines case line before made))
