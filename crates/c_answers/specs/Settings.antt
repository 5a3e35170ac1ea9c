-- The settings and sizes that C asks for, as the definitions' values.
use Rattle.std.specs.Prelude.{◌≡◌, ◌≢◌, Option, Some, true}
use Rattle.migration_model.specs.Frames.{GuestShape, shape_with}
use Rattle.migration_model.specs.Rates.{AreSettings, MigrationSettings}
use Rattle.rate_limit.specs.Refusals.{refusal_of}
use Rattle.trace_codec.specs.Refusals.{sizes_refusal}
use Rattle.trace_codec.specs.declared.error.TraceError.{TraceError}
use Rattle.c_layout.specs.Settings as layout
use Rattle.c_answers.specs.declared.answers.Refusal.{Refusal}
use Rattle.c_answers.specs.declared.answers.Refusal.TheVariants as refusals
use Rattle.c_answers.specs.declared.settings.SizedSettings.{SizedSettings}
use Rattle.c_answers.specs.declared.sizes.GuestSizes.{GuestSizes}

-- what a plan uses
abbrev pub settings_in : SizedSettings → MigrationSettings
settings_in s = layout.settings_in s.settings

-- the struct is as long as this library knows it, and each setting is in its range
pub record AreGiven (s : SizedSettings) : Type 0 where
  pub size : s.size ≡ 88
  pub in_range : AreSettings (settings_in s)

-- settings are refused: the struct is longer or shorter, or else one of them is out of its range
abbrev pub RefusesSettings : SizedSettings → Refusal → Type 0
RefusesSettings s refusals.SettingsSize = s.size ≢ 88
RefusesSettings s (refusals.Settings e) = (s.size ≡ 88) × (refusal_of (settings_in s) ≡ Some e)
RefusesSettings s (refusals.Trace e) = ⊥
RefusesSettings s (refusals.Frame e) = ⊥
RefusesSettings s refusals.Memory = ⊥
RefusesSettings s refusals.ShortBuffer = ⊥
RefusesSettings s refusals.PageLength = ⊥
RefusesSettings s refusals.MemoryLength = ⊥
RefusesSettings s refusals.PageCount = ⊥
RefusesSettings s refusals.PageMissing = ⊥

abbrev pub shape_in : GuestSizes → GuestShape
shape_in sizes = shape_with sizes.shift sizes.pages sizes.writes

-- why sizes are refused, on their own
abbrev pub shape_refusal : GuestSizes → Option TraceError
shape_refusal sizes = sizes_refusal true 1 sizes.shift sizes.pages sizes.writes
