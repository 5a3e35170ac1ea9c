-- What a migration comes to like QEMU, in the numbers that C and a web page have.
use Rattle.std.specs.Prelude.{ℕ, Bool, if◌then◌else◌, Option, None, Some}
use Rattle.migration_model.specs.Looks.{PlanEnd, few_left, looks_done, record_ends}
use Rattle.predictions.specs.Looks.{LookForecast}
use Rattle.predictions.specs.Questions.{capped}
use Rattle.c_layout.specs.declared.forecasts.ForecastNumbers.{ForecastNumbers}

-- why a plan ends; that of a forecast may look as often as it wants, so none ends since all looks are done
abbrev pub end_number : PlanEnd → ℕ
end_number few_left = 0
end_number record_ends = 1
end_number looks_done = 3

-- whether a limit is kept: it is not known if the record ends first
abbrev pub kept_number : PlanEnd → Bool → ℕ
kept_number record_ends is_kept = 2
kept_number few_left is_kept = if is_kept then 0 else 1
kept_number looks_done is_kept = if is_kept then 0 else 1

abbrev pub numbers_with : LookForecast → ForecastNumbers
numbers_with f = record {
  looks = f.looks;
  time = capped f.time;
  bytes = capped f.bytes;
  left = capped f.left;
  downtime = capped f.downtime;
  end = end_number f.end;
  kept = kept_number f.end f.is_kept;
}

-- the numbers of a forecast, or of a migration that begins after the last tick
abbrev pub forecast_numbers : Option LookForecast → ForecastNumbers
forecast_numbers None =
    record { looks = 0; time = 0; bytes = 0; left = 0; downtime = 0; end = 2; kept = 2 }
forecast_numbers (Some f) = numbers_with f
