-- Whether a trace may have the scale that words give it.
use Rattle.std.specs.Prelude.{◌≡◌, ◌≢◌, ℕ, ◌<◌, ◌≤◌, ◌^◌, Option, Some, None, ⊤}
use Rattle.predictions.specs.Units.Scales.{TraceScale}
use Rattle.precopy_view.specs.declared.faults.ShowError.{ShowError}
use Rattle.precopy_view.specs.declared.faults.ShowError.TheVariants as errors

-- the pages of the trace have the scale's size, and there are no more of them than were sampled
abbrev pub FitsScale : Option TraceScale → ℕ → ℕ → Type 0
FitsScale None shift pages = ⊤
FitsScale (Some scale) shift pages =
    (2 ^ shift ≡ scale.page) × (scale.sampled < scale.guest → pages ≤ scale.sampled)

-- the error says how the trace does not have the scale: first comes the size of its pages
abbrev pub IsMisfitOf : TraceScale → ℕ → ℕ → ShowError → Type 0
IsMisfitOf scale shift pages (errors.PageSize size) = (size ≡ 2 ^ shift) × (size ≢ scale.page)
IsMisfitOf scale shift pages (errors.TooManyPages count) =
    (count ≡ pages) × (2 ^ shift ≡ scale.page) × (scale.sampled < scale.guest) × (scale.sampled < pages)
IsMisfitOf scale shift pages (errors.Trace e) = ⊥
IsMisfitOf scale shift pages errors.Memory = ⊥
IsMisfitOf scale shift pages errors.Write = ⊥
IsMisfitOf scale shift pages (errors.View e) = ⊥

abbrev pub IsMisfit : Option TraceScale → ℕ → ℕ → ShowError → Type 0
IsMisfit None shift pages e = ⊥
IsMisfit (Some scale) shift pages e = IsMisfitOf scale shift pages e
