-- What is advised is determined.
use Rattle.std.proofs.Common.{◌≡◌, ◌∙◌, ◌<◌, ℕ, Bool, Option, List, [], ◌∷◌, length, get_or, refl, sym, ap, inl, inr}
use Rattle.std.proofs.Common.{arith}
use Rattle.std.proofs.lemmas.Bool.{both_ways, cases_order}
use Rattle.migration_model.specs.Sweeps.{SweepLine, is_better}
use Rattle.migration_model.specs.Touches.{GuestTouches}
use Rattle.trace_views.specs.Advice.{EndsWithin, IsAdvice, IsFirst, IsNearest, KeepsBudget, KeepsDown, NoneHas}
use Rattle.trace_views.specs.Advice.{is_cheaper}
use Rattle.trace_views.specs.declared.advice.Advice.{Advice}
use Rattle.trace_views.specs.declared.advice.Advice.TheVariants as advices
use Rattle.view_kinds.specs.declared.budget.Budget.{Budget}
use Rattle.view_kinds.specs.declared.view.Measured.{Measured}

module _ (beats : SweepLine → SweepLine → Bool) (Has : SweepLine → Type 0) (lines : List SweepLine) (n : ℕ) where
  -- the first of the best is before no other that is
  not_before : (d : SweepLine) (a b : ℕ) → IsFirst beats Has lines n a → IsFirst beats Has lines n b → a < b → ⊥
  not_before d a b x y less =
      both_ways (beats (get_or lines b d) (get_or lines a d)) (x.best b d y.inside (y.has d))
      (y.first a d less (x.has d))

  one_first : (d : SweepLine) (a b : ℕ) → IsFirst beats Has lines n a → IsFirst beats Has lines n b → a ≡ b
  one_first d a b x y = elim (cases_order a b) [
    | inl same ↦ same
    | inr (inl below) ↦ absurd (not_before d a b x y below)
    | inr (inr above) ↦ absurd (not_before d b a y x above)
  ]

  none_first : (d : SweepLine) (at : ℕ) → NoneHas Has lines n → IsFirst beats Has lines n at → ⊥
  none_first d at none x = none.none at d x.inside (x.has d)

  -- no case is the first of none
  not_of_none : (at : ℕ) → n ≡ 0 → IsFirst beats Has lines n at → ⊥
  not_of_none at none x = let inside : at < n = x.inside in omega (arith, inside, none)

module _ (log : GuestTouches) (measured : Option Measured) (budget : Budget) (lines : List SweepLine) where
  abbrev Down : SweepLine → Type 0
  Down line = KeepsDown log measured budget.down line

  abbrev Whole : SweepLine → Type 0
  Whole line = KeepsBudget log measured budget line

  abbrev Ends : SweepLine → Type 0
  Ends line = EndsWithin log line

  -- a case that keeps a budget keeps its downtime, and ends within the touches
  keeps_down : (d : SweepLine) (at : ℕ) → NoneHas Down lines (length lines)
      → IsFirst is_cheaper Whole lines (length lines) at → ⊥
  keeps_down d at none x = none.none at d x.inside (x.has d).down

  ends : (d : SweepLine) (at : ℕ) → NoneHas Ends lines (length lines)
      → IsFirst is_cheaper Whole lines (length lines) at → ⊥
  ends d at none x = none.none at d x.inside (x.has d).down.known

  none_nearest : (d : SweepLine) (at : ℕ) → NoneHas Ends lines (length lines) → IsNearest log lines at → ⊥
  none_nearest d at none x = none_first is_better Ends lines (length lines) d at none x

  one_over : (d : SweepLine) (p q r s : ℕ) → IsAdvice log measured budget lines (advices.OverTotal p q)
      → IsAdvice log measured budget lines (advices.OverTotal r s) → advices.OverTotal p q ≡ advices.OverTotal r s
  one_over d p q r s x y =
      let nearest = one_first is_better Ends lines (length lines) d p r x.1 y.1 in
      let cheapest = one_first is_cheaper Down lines (length lines) d q s x.2 y.2 in
      λ i. advices.OverTotal (nearest i) (cheapest i)

  one_of_some : (d : SweepLine) (a b : Advice) → IsAdvice log measured budget lines a
      → IsAdvice log measured budget lines b → a ≡ b
  one_of_some d (advices.Fits a) (advices.Fits b) x y =
      ap advices.Fits (one_first is_cheaper Whole lines (length lines) d a b x y)
  one_of_some d (advices.Fits a) (advices.OverTotal p q) x y =
      absurd (none_first is_cheaper Whole lines (length lines) d a y.0 x)
  one_of_some d (advices.Fits a) (advices.OverDown p) x y = absurd (keeps_down d a y.0 x)
  one_of_some d (advices.Fits a) advices.Unknown x y = absurd (ends d a y x)
  one_of_some d (advices.OverTotal p q) (advices.Fits b) x y =
      absurd (none_first is_cheaper Whole lines (length lines) d b x.0 y)
  one_of_some d (advices.OverTotal p q) (advices.OverTotal r s) x y = one_over d p q r s x y
  one_of_some d (advices.OverTotal p q) (advices.OverDown r) x y =
      absurd (none_first is_cheaper Down lines (length lines) d q y.0 x.2)
  one_of_some d (advices.OverTotal p q) advices.Unknown x y = absurd (none_nearest d p y x.1)
  one_of_some d (advices.OverDown p) (advices.Fits b) x y = absurd (keeps_down d b x.0 y)
  one_of_some d (advices.OverDown p) (advices.OverTotal r s) x y =
      absurd (none_first is_cheaper Down lines (length lines) d s x.0 y.2)
  one_of_some d (advices.OverDown p) (advices.OverDown q) x y =
      ap advices.OverDown (one_first is_better Ends lines (length lines) d p q x.1 y.1)
  one_of_some d (advices.OverDown p) advices.Unknown x y = absurd (none_nearest d p y x.1)
  one_of_some d advices.Unknown (advices.Fits b) x y = absurd (ends d b x y)
  one_of_some d advices.Unknown (advices.OverTotal r s) x y = absurd (none_nearest d r x y.1)
  one_of_some d advices.Unknown (advices.OverDown q) x y = absurd (none_nearest d q x y.1)
  one_of_some d advices.Unknown advices.Unknown x y = refl

module _ (log : GuestTouches) (measured : Option Measured) (budget : Budget) where
  -- of no cases nothing else is known than that
  of_none : (a : Advice) → IsAdvice log measured budget [] a → a ≡ advices.Unknown
  of_none (advices.Fits a) x = absurd (not_of_none is_cheaper (Whole log measured budget []) [] 0 a refl x)
  of_none (advices.OverTotal p q) x =
      absurd (not_of_none is_cheaper (Down log measured budget []) [] 0 q refl x.2)
  of_none (advices.OverDown p) x = absurd (not_of_none is_better (Ends log measured budget []) [] 0 p refl x.1)
  of_none advices.Unknown x = refl

pub one_advice : (log : GuestTouches) (measured : Option Measured) (budget : Budget) (lines : List SweepLine)
    (a b : Advice) → IsAdvice log measured budget lines a → IsAdvice log measured budget lines b → a ≡ b
one_advice log measured budget [] a b x y = of_none log measured budget a x ∙ sym (of_none log measured budget b y)
one_advice log measured budget (head ∷ rest) a b x y =
    one_of_some log measured budget (head ∷ rest) head a b x y
