-- Starts are refused for one thing, the first of them whose settings are out of range, or for none.
use Rattle.std.proofs.Common.{◌≡◌, ◌∙◌, ℕ, Some, sym, subst, inl, inr}
use Rattle.std.proofs.lemmas.Bool.{cases_order}
use Rattle.std.proofs.lemmas.Option.{none-some, same_Some}
use Rattle.migration_model.specs.Rates.{MigrationSettings}
use Rattle.predictions.specs.Starts.{AreAccepted, RefusesStart, case_from}
use Rattle.predictions.specs.declared.starts.cases.Starts.{Starts}
use Rattle.rate_limit.specs.Refusals.{refusal_of}
use Rattle.rate_limit.specs.declared.error.SettingsError.{SettingsError}

module _ (settings : MigrationSettings) (starts : Starts) (last_tick : ℕ) where
  pub one_start : (a b : SettingsError) → RefusesStart settings starts last_tick a
      → RefusesStart settings starts last_tick b → a ≡ b
  one_start a b x y = elim (cases_order x.number y.number) [
    | inl same ↦
        same_Some a b
        (sym (subst (λ (k : ℕ). refusal_of (case_from settings starts last_tick k) ≡ Some a) same x.refused)
        ∙ y.refused)
    | inr (inl below) ↦ absurd (none-some a (sym (y.before x.number below) ∙ x.refused))
    | inr (inr above) ↦ absurd (none-some b (sym (x.before y.number above) ∙ y.refused))
  ]

  pub none_refused : (e : SettingsError) → AreAccepted settings starts last_tick
      → RefusesStart settings starts last_tick e → ⊥
  none_refused e each x = none-some e (sym (each x.number x.is_start) ∙ x.refused)
