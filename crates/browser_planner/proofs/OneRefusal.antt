-- A call of the page refuses for one thing.
use Rattle.std.proofs.Common.{◌≡◌, ◌∙◌, ℕ, List, Some, refl, sym, ap}
use Rattle.std.proofs.lemmas.Option.{same_Some}
use Rattle.migration_model.specs.Rates.{AreSettings, MigrationSettings}
use Rattle.migration_model.specs.Trace.{GuestTrace, Spells}
use Rattle.rate_limit.specs.Refusals.{refusal_of}
use Rattle.rate_limit.specs.declared.error.SettingsError.{SettingsError}
use Rattle.rate_limit.proofs.Ranges.{refused_lem}
use Rattle.trace_codec.specs.Refusals.{Refuses}
use Rattle.trace_codec.specs.declared.error.TraceError.{TraceError}
use Rattle.trace_codec.proofs.Never.{never_refused, one_cause}
use Rattle.browser_planner.specs.Plans as plans
use Rattle.browser_planner.specs.Windows as windows
use Rattle.browser_planner.specs.declared.answers.Refusal.{Refusal}
use Rattle.browser_planner.specs.declared.answers.Refusal.TheVariants as refusals
use Rattle.browser_planner.specs.declared.plans.PlanRoom.{PlanRoom}
use Rattle.browser_planner.specs.declared.windows.WindowRoom.{WindowRoom}

-- ---- settings, a trace, and room

-- the settings are refused, or else the bytes, or else what is lent for the trace
abbrev RefusesFirst : List ℕ → MigrationSettings → (GuestTrace → Type 0) → Refusal → Type 0
RefusesFirst bytes s Lacks (refusals.Settings e) = refusal_of s ≡ Some e
RefusesFirst bytes s Lacks (refusals.Trace e) = AreSettings s × Refuses bytes e
RefusesFirst bytes s Lacks (refusals.Units e) = ⊥
RefusesFirst bytes s Lacks (refusals.Misfit e) = ⊥
RefusesFirst bytes s Lacks refusals.ShortBuffer =
    AreSettings s × (trace : GuestTrace) × Spells bytes trace × Lacks trace

module _ (bytes : List ℕ) (s : MigrationSettings) (Lacks : GuestTrace → Type 0) where
  one_of_three : (a b : Refusal) → RefusesFirst bytes s Lacks a → RefusesFirst bytes s Lacks b → a ≡ b
  one_of_three (refusals.Units e) b x y = absurd x
  one_of_three (refusals.Misfit e) b x y = absurd x
  one_of_three (refusals.Settings e) (refusals.Units f) x y = absurd y
  one_of_three (refusals.Settings e) (refusals.Misfit f) x y = absurd y
  one_of_three (refusals.Settings e) (refusals.Settings f) x y =
      ap (λ (c : SettingsError). refusals.Settings c) (same_Some e f (sym x ∙ y))
  one_of_three (refusals.Settings e) (refusals.Trace f) x y = absurd (refused_lem s e x y.0)
  one_of_three (refusals.Settings e) refusals.ShortBuffer x y = absurd (refused_lem s e x y.0)
  one_of_three (refusals.Trace e) (refusals.Units f) x y = absurd y
  one_of_three (refusals.Trace e) (refusals.Misfit f) x y = absurd y
  one_of_three (refusals.Trace e) (refusals.Settings f) x y = absurd (refused_lem s f y x.0)
  one_of_three (refusals.Trace e) (refusals.Trace f) x y =
      ap (λ (c : TraceError). refusals.Trace c) (one_cause bytes e f x.1 y.1)
  one_of_three (refusals.Trace e) refusals.ShortBuffer x y = absurd (never_refused bytes y.1 e y.2 x.1)
  one_of_three refusals.ShortBuffer (refusals.Units f) x y = absurd y
  one_of_three refusals.ShortBuffer (refusals.Misfit f) x y = absurd y
  one_of_three refusals.ShortBuffer (refusals.Settings f) x y = absurd (refused_lem s f y x.0)
  one_of_three refusals.ShortBuffer (refusals.Trace f) x y = absurd (never_refused bytes x.1 f x.2 y.1)
  one_of_three refusals.ShortBuffer refusals.ShortBuffer x y = refl

module _ (bytes : List ℕ) (s : MigrationSettings) where
  of_plan : (room : PlanRoom) (r : Refusal) → plans.RefusesPlan bytes s room r
      → RefusesFirst bytes s (λ t. plans.HasRoom t s room → ⊥) r
  of_plan room (refusals.Settings e) is = is
  of_plan room (refusals.Trace e) is = is
  of_plan room (refusals.Units e) is = is
  of_plan room (refusals.Misfit e) is = is
  of_plan room refusals.ShortBuffer is = is

  pub one_plan : (room : PlanRoom) (a b : Refusal) → plans.RefusesPlan bytes s room a
      → plans.RefusesPlan bytes s room b → a ≡ b
  one_plan room a b x y =
      one_of_three bytes s (λ t. plans.HasRoom t s room → ⊥) a b (of_plan room a x) (of_plan room b y)

  of_windows : (room : WindowRoom) (r : Refusal) → windows.RefusesWindows bytes s room r
      → RefusesFirst bytes s (λ t. windows.HasRoom t s room → ⊥) r
  of_windows room (refusals.Settings e) is = is
  of_windows room (refusals.Trace e) is = is
  of_windows room (refusals.Units e) is = is
  of_windows room (refusals.Misfit e) is = is
  of_windows room refusals.ShortBuffer is = is

  pub one_windows : (room : WindowRoom) (a b : Refusal) → windows.RefusesWindows bytes s room a
      → windows.RefusesWindows bytes s room b → a ≡ b
  one_windows room a b x y =
      one_of_three bytes s (λ t. windows.HasRoom t s room → ⊥) a b (of_windows room a x) (of_windows room b y)
