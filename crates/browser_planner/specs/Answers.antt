-- The numbers that a caller sees for refusals: those that C sees.
use Rattle.std.specs.Prelude.{◌≡◌, ℕ}
use Rattle.c_layout.specs.Refusals.{number_of_misfit, number_of_settings, number_of_trace, number_of_units}
use Rattle.browser_planner.specs.declared.answers.Refusal.{Refusal}
use Rattle.browser_planner.specs.declared.answers.Refusal.TheVariants as refusals

abbrev pub number_of : Refusal → ℕ
number_of (refusals.Trace e) = number_of_trace e
number_of (refusals.Settings e) = number_of_settings e
number_of (refusals.Units e) = number_of_units e
number_of (refusals.Misfit e) = number_of_misfit e
number_of refusals.ShortBuffer = 61

-- this is the number of a refusal of which that holds
abbrev pub IsNumberOf : ℕ → (Refusal → Type 0) → Type 0
IsNumberOf number Holds = (refusal : Refusal) × (number ≡ number_of refusal) × Holds refusal
