-- Limits are refused for one thing, and so are questions.
use Rattle.std.proofs.Common.{◌≡◌, ◌∙◌, ℕ, Option, Some, None, ap, sym, inl, inr}
use Rattle.std.proofs.lemmas.Option.{none-some, same_Some}
use Rattle.migration_model.specs.Rates.{MigrationSettings}
use Rattle.predictions.specs.Questions.{RefusesQuestion, limits_in, others_in, given, scale_in}
use Rattle.predictions.specs.Units.Limits.{RefusesLimits, limits_refusal, settings_in}
use Rattle.predictions.specs.Units.Scales.{TraceScale}
use Rattle.predictions.specs.declared.question.Question.{Question}
use Rattle.predictions.specs.declared.units.error.UnitsError.{UnitsError}
use Rattle.predictions.specs.declared.units.error.UnitsError.TheVariants.{Tick, Page, Sampled, Link, First, Reserve}
use Rattle.predictions.specs.declared.units.error.UnitsError.TheVariants.{Downtime, Setting}
use Rattle.predictions.specs.declared.units.limits.Limits.{Limits}
use Rattle.rate_limit.specs.Refusals.{refusal_of}
use Rattle.rate_limit.specs.declared.error.SettingsError.{SettingsError}

-- a limit, or else another setting
abbrev first_of : Option UnitsError → Option SettingsError → Option UnitsError
first_of (Some e) other = Some e
first_of None (Some e) = Some (Setting e)
first_of None None = None

module _ (scale : TraceScale) (limits : Limits) (increment : Option ℕ) (others : MigrationSettings) where
  abbrev of_limits : Option UnitsError
  of_limits = limits_refusal scale limits

  abbrev of_settings : Option SettingsError
  of_settings = refusal_of (settings_in scale limits increment others)

  told : (e : UnitsError) → of_limits ≡ Some e → first_of of_limits of_settings ≡ Some e
  told e is = ap (λ (o : Option UnitsError). first_of o of_settings) is

  told_by : (e : UnitsError) → RefusesLimits scale limits increment others e
      → first_of of_limits of_settings ≡ Some e
  told_by Tick is = absurd is
  told_by Page is = absurd is
  told_by Sampled is = absurd is
  told_by Link is = told Link is
  told_by First is = told First is
  told_by Reserve is = told Reserve is
  told_by Downtime is = told Downtime is
  told_by (Setting e) is = ap (λ (o : Option UnitsError). first_of o of_settings) is.0
      ∙ ap (λ (o : Option SettingsError). first_of None o) is.1

  pub one_limit : (a b : UnitsError) → RefusesLimits scale limits increment others a
      → RefusesLimits scale limits increment others b → a ≡ b
  one_limit a b x y = same_Some a b (sym (told_by a x) ∙ told_by b y)

pub one_refusal : (q : Question) (a b : UnitsError) → RefusesQuestion q a → RefusesQuestion q b → a ≡ b
one_refusal q a b (inl x) (inl y) = same_Some a b (sym x ∙ y)
one_refusal q a b (inl x) (inr y) = absurd (none-some a (sym y.0 ∙ x))
one_refusal q a b (inr x) (inl y) = absurd (none-some b (sym x.0 ∙ y))
one_refusal q a b (inr x) (inr y) =
    one_limit (scale_in q) (limits_in q) (given q.has_increment q.increment) (others_in q) a b x.1 y.1
