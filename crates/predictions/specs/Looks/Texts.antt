-- A forecast of a hypervisor's migration as a line. This project's own.
use Rattle.std.specs.Prelude.{ℕ, List, [], ◌∷◌, codes, Option, None, Some}
use Rattle.migration_model.specs.Looks.{PlanEnd, few_left, looks_done, record_ends}
use Rattle.predictions.specs.Looks.{LookForecast, sent_before}
use Rattle.predictions.specs.Quantities.{bytes_text, time_text}
use Rattle.predictions.specs.Texts.{verdict}
use Rattle.sweep_report.specs.Lines.{field, line}

-- what the migration costs
abbrev pub ended_line : LookForecast → List ℕ
ended_line f = line (field (codes "like QEMU: looks ") f.looks ∷ codes ", time " ∷ time_text f.time ∷ codes ", sent "
    ∷ bytes_text f.bytes ∷ codes ", downtime " ∷ time_text f.downtime ∷ verdict f.is_kept ∷ [])

-- what is known of it if the record ends first
abbrev pub unended_line : LookForecast → List ℕ
unended_line f = line (field (codes "like QEMU: the trace ends first, looks ") f.looks ∷ codes ", sent "
    ∷ bytes_text (sent_before f) ∷ codes ", left " ∷ bytes_text f.left ∷ [])

abbrev pub forecast_line : PlanEnd → LookForecast → List ℕ
forecast_line record_ends f = unended_line f
forecast_line few_left f = ended_line f
forecast_line looks_done f = ended_line f

abbrev pub look_text : Option LookForecast → List ℕ
look_text None = []
look_text (Some f) = forecast_line f.end f
