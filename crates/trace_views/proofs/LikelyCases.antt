-- Which cases are likely to keep a downtime, and a budget.
use Rattle.std.proofs.Common.{◌≡◌, ℕ, ◌<◌, ◌≤◌, true, false, Option, Some, None, List, length}
use Rattle.std.proofs.Common.{get_or, ◌∙◌, sym, subst}
use Rattle.std.proofs.Common.{arith}
use Rattle.std.proofs.lemmas.Bool.{both_ways}
use Rattle.std.proofs.lemmas.List.{get_or_default}
use Rattle.migration_model.specs.Sweeps.{SweepLine}
use Rattle.migration_model.specs.Touches.{GuestTouches}
use Rattle.predictions.specs.Redrawn.Errors.{SampleErrors}
use Rattle.predictions.specs.declared.course.Manner.TheVariants.{Rounds}
use Rattle.predictions.proofs.OneError.{one_errors}
use Rattle.trace_views.specs.Advice.{AreCaseErrors, IsFirst, KeepsBudget, KeepsDown, NoneHas, ends_within, is_cheaper}
use Rattle.trace_views.specs.Advice.{is_likely_with, is_within}
use Rattle.view_kinds.specs.declared.budget.Budget.{Budget}
use Rattle.view_kinds.specs.declared.view.Measured.{Measured}

-- a case has one value of its errors, or none
one_case_errors : (log : GuestTouches) (measured : Option Measured) (line : SweepLine) (a b : Option SampleErrors)
    → AreCaseErrors log measured line a → AreCaseErrors log measured line b → a ≡ b
one_case_errors log None line a b x y = x ∙ sym y
one_case_errors log (Some known) line a b x y =
    one_errors Rounds log.pages log.touches line.settings known.scale a b x y

module _ (log : GuestTouches) (measured : Option Measured) where
  -- a case that ends after the touches does not keep a downtime
  pub not_known : (down : ℕ) (line : SweepLine) → ends_within log line ≡ false → ¬ KeepsDown log measured down line
  not_known down line late = λ keeps. both_ways (ends_within log line) late keeps.known

  -- nor does one with more downtime
  pub not_planned : (down : ℕ) (line : SweepLine) → down < line.outcome.down → ¬ KeepsDown log measured down line
  not_planned down line more = λ keeps. let planned = keeps.planned in omega (arith, more, planned)

  -- nor does one that is not likely to, with its errors
  pub not_likely : (down : ℕ) (line : SweepLine) (errors : Option SampleErrors) → AreCaseErrors log measured line errors
      → is_likely_with log measured line errors ≡ false → ¬ KeepsDown log measured down line
  not_likely down line errors are lost =
      λ keeps. let same = one_case_errors log measured line keeps.errors errors keeps.errors_are are in
      both_ways (is_likely_with log measured line errors) lost
      (subst (λ (e : Option SampleErrors). is_likely_with log measured line e ≡ true) same keeps.likely)

-- what is no more than a number within a limit is within it
within_less : (limit : Option ℕ) (m n : ℕ) → m ≤ n → is_within limit n ≡ true → is_within limit m ≡ true
within_less None m n less within = within
within_less (Some limit) m n less within = grind arith

-- a case that is not cheaper sends no fewer pages
not_fewer : (a b : SweepLine) → is_cheaper a b ≡ false → b.outcome.total ≤ a.outcome.total
not_fewer a b dearer = grind arith

module _ (log : GuestTouches) (measured : Option Measured) (budget : Budget) (lines : List SweepLine) (at : ℕ)
    (line : SweepLine) (inside : at < length lines) (is : line ≡ get_or lines at line)
    (cheapest : IsFirst is_cheaper (KeepsDown log measured budget.down) lines (length lines) at) where
  there : (d : SweepLine) → line ≡ get_or lines at d
  there d = is ∙ get_or_default lines at line d inside

  -- if the pages of the cheapest case are within the budget, it is the cheapest of those that keep the budget
  pub fits : is_within budget.total line.outcome.total ≡ true
      → IsFirst is_cheaper (KeepsBudget log measured budget) lines (length lines) at
  fits within = record {
    inside = cheapest.inside;
    has = λ d. record {
      down = cheapest.has d;
      total = subst (λ (l : SweepLine). is_within budget.total l.outcome.total ≡ true) (there d) within;
    };
    best = λ k d low kept. cheapest.best k d low kept.down;
    first = λ k d low kept. cheapest.first k d low kept.down;
  }

  -- if not, none keeps the budget
  pub none_fits : is_within budget.total line.outcome.total ≡ false
      → NoneHas (KeepsBudget log measured budget) lines (length lines)
  none_fits over = record {
    none = λ k d low kept.
        let other = get_or lines k d in
        let fewer = not_fewer other line
        (subst (λ (l : SweepLine). is_cheaper other l ≡ false) (sym (there d)) (cheapest.best k d low kept.down)) in
        both_ways (is_within budget.total line.outcome.total) over
        (within_less budget.total line.outcome.total other.outcome.total fewer kept.total);
  }
