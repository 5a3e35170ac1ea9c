-- Questions that are accepted are not refused, and a trace that has a question's scale has no misfit.
use Rattle.std.proofs.Common.{◌≡◌, ℕ, List, sym, subst, ◌∙◌, inl, inr, arith}
use Rattle.std.proofs.lemmas.Option.{none-some}
use Rattle.migration_model.specs.Trace.{GuestTrace, Spells}
use Rattle.migration_model.proofs.Traces.{one_trace_lem}
use Rattle.predictions.specs.Questions.{AcceptsQuestion, Fits, IsMisfit, RefusesQuestion}
use Rattle.predictions.specs.Units.Scales.{TraceScale}
use Rattle.predictions.specs.declared.question.Misfit.{Misfit}
use Rattle.predictions.specs.declared.question.Misfit.TheVariants as misfits
use Rattle.predictions.specs.declared.question.Question.{Question}
use Rattle.predictions.specs.declared.units.error.UnitsError.{UnitsError}
use Rattle.predictions.proofs.Accepted.{limits_refused}
use Rattle.predictions.proofs.Misfits.{one_misfit_lem}

pub asked_not : (q : Question) (e : UnitsError) → RefusesQuestion q e → AcceptsQuestion q → ⊥
asked_not q e (inl is) accepted = none-some e (sym accepted.scale ∙ is)
asked_not q e (inr is) accepted = limits_refused q e is.1 accepted

pub fits_not : (scale : TraceScale) (shift pages : ℕ) (e : Misfit) → IsMisfit scale shift pages e
    → Fits scale shift pages → ⊥
fits_not scale shift pages misfits.PageSize is fits = is fits.0
fits_not scale shift pages misfits.TooManyPages is fits = omega (arith, is.2, fits.1 is.1)

pub same_misfit : (bytes : List ℕ) (scale : TraceScale) (s t : GuestTrace) (a b : Misfit) → Spells bytes s
    → Spells bytes t → IsMisfit scale s.shift s.pages a → IsMisfit scale t.shift t.pages b → a ≡ b
same_misfit bytes scale s t a b spells_s spells_t x y =
    one_misfit_lem scale s.shift s.pages a b x (subst (λ (g : GuestTrace). IsMisfit scale g.shift g.pages b)
    (one_trace_lem bytes t s spells_t spells_s) y)

pub misfit_not : (bytes : List ℕ) (scale : TraceScale) (s t : GuestTrace) (e : Misfit) → Spells bytes s
    → Spells bytes t → IsMisfit scale s.shift s.pages e → Fits scale t.shift t.pages → ⊥
misfit_not bytes scale s t e spells_s spells_t is fits =
    fits_not scale s.shift s.pages e is (subst (λ (g : GuestTrace). Fits scale g.shift g.pages)
    (one_trace_lem bytes t s spells_t spells_s) fits)
