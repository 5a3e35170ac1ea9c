-- The numbers that C sees for refusals. Those of frames, F1 to F5, begin at 41. This project's own.
use Rattle.std.specs.Prelude.{◌≡◌, ℕ}
use Rattle.c_layout.specs.Refusals.{number_of_settings, number_of_trace, record_after}
use Rattle.page_message.specs.declared.error.FrameError.{FrameError}
use Rattle.page_message.specs.declared.error.FrameError.TheVariants as frames
use Rattle.c_answers.specs.declared.answers.Refusal.{Refusal}
use Rattle.c_answers.specs.declared.answers.Refusal.TheVariants as refusals

abbrev pub number_of_frame : FrameError → ℕ
number_of_frame frames.Short = 41
number_of_frame frames.Page = 42
number_of_frame frames.Stamp = 43
number_of_frame frames.Kind = 44
number_of_frame frames.ZeroData = 45
number_of_frame frames.Memory = 16

abbrev pub number_of : Refusal → ℕ
number_of (refusals.Trace e) = number_of_trace e
number_of (refusals.Settings e) = number_of_settings e
number_of refusals.SettingsSize = 31
number_of (refusals.Frame e) = number_of_frame e
number_of refusals.Memory = 16
number_of refusals.ShortBuffer = 61
number_of refusals.PageLength = 62
number_of refusals.MemoryLength = 63
number_of refusals.PageCount = 64
number_of refusals.PageMissing = 65

-- the record that C is told of any refusal
abbrev pub record_told : Refusal → ℕ → ℕ
record_told (refusals.Trace e) old = record_after e old
record_told (refusals.Settings e) old = old
record_told refusals.SettingsSize old = old
record_told (refusals.Frame e) old = old
record_told refusals.Memory old = old
record_told refusals.ShortBuffer old = old
record_told refusals.PageLength old = old
record_told refusals.MemoryLength old = old
record_told refusals.PageCount old = old
record_told refusals.PageMissing old = old

-- this is the number of a refusal for which that holds
abbrev pub IsNumberOf : ℕ → (Refusal → Type 0) → Type 0
IsNumberOf number Holds = (refusal : Refusal) × (number ≡ number_of refusal) × Holds refusal

-- and its record is told
abbrev pub IsToldBy : ℕ → ℕ → ℕ → (Refusal → Type 0) → Type 0
IsToldBy number old new Holds =
    (refusal : Refusal) × (number ≡ number_of refusal) × (new ≡ record_told refusal old) × Holds refusal
