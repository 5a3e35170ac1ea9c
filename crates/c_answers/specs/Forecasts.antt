-- What C sees of a hypervisor's migration. Why there is nothing to tell is as for a prediction.
use Rattle.std.specs.Prelude.{◌≡◌, Option}
use Rattle.migration_model.specs.Touches.{GuestTouches, touches_in}
use Rattle.migration_model.specs.Trace.{GuestTrace}
use Rattle.predictions.specs.Looks.{IsForecast, LookForecast}
use Rattle.predictions.specs.Questions.{Fits, scale_in, terms_of}
use Rattle.predictions.specs.declared.question.Question.{Question}
use Rattle.predictions.specs.declared.question.Terms.{Terms}
use Rattle.c_layout.specs.Forecasts.{forecast_numbers}
use Rattle.c_layout.specs.declared.forecasts.ForecastNumbers.{ForecastNumbers}

-- these numbers say what comes of a question over a log of touches like QEMU
pub record IsForecastOver (terms : Terms) (log : GuestTouches) (numbers : ForecastNumbers) : Type 0 where
  pub forecast : Option LookForecast
  pub is_forecast : IsForecast log.pages log.touches terms.scale terms.limits terms.settings forecast
  pub numbers_are : numbers ≡ forecast_numbers forecast

-- they say so over a trace that has the question's scale
pub record IsForecastOf (trace : GuestTrace) (q : Question) (numbers : ForecastNumbers) : Type 0 where
  pub fits : Fits (scale_in q) trace.shift trace.pages
  pub forecasts : IsForecastOver (terms_of q) (touches_in trace) numbers
