use Rattle.predictions.proofs.OneForecast.{one_forecast_lem}
use Rattle.predictions.proofs.looks.forecast.one_forecast.Goals as goal

pub returns : goal.returns
returns c = one_forecast_lem
