-- The settings that a caller asks for, as the definitions' value.
use Rattle.std.specs.Prelude.{ℕ, ◌==◌, not, is_some, unwrap_or, if◌then◌else◌, Option, Some, None}
use Rattle.migration_model.specs.Rates.{MigrationSettings}
use Rattle.c_layout.specs.declared.settings.PlanSettings.{PlanSettings}

-- the tick of a base, if there is one
abbrev pub base_in : PlanSettings → Option ℕ
base_in s = if s.has_base == 0 then None else Some s.base

-- what a plan keeps to; no call starts a thread, so there is one worker, one stream, one replayer, and a lane of one
abbrev pub settings_in : PlanSettings → MigrationSettings
settings_in s = record {
  min = s.min;
  max = s.max;
  increment = s.increment;
  threshold = s.threshold;
  rounds = s.rounds;
  start = s.start;
  window = s.window;
  hot = s.hot;
  workers = 1;
  streams = 1;
  replayers = 1;
  lane = 1;
  skip = not (s.skip == 0);
  base = base_in s;
}

-- settings as a caller gets them
abbrev pub settings_told : MigrationSettings → PlanSettings
settings_told s = record {
  min = s.min;
  max = s.max;
  increment = s.increment;
  threshold = s.threshold;
  rounds = s.rounds;
  start = s.start;
  window = s.window;
  hot = s.hot;
  base = unwrap_or s.base 0;
  has_base = if is_some s.base then 1 else 0;
  skip = if s.skip then 1 else 0;
}
