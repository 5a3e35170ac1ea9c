-- What is enough for a question, in the numbers that C and a web page have. This project's own.
use Rattle.std.specs.Prelude.{◌-◌, ◌*◌, ◌^◌, is_some, min, unwrap_or, if◌then◌else◌}
use Rattle.predictions.specs.Remedies.Trials.{MigrationTrial}
use Rattle.predictions.specs.declared.remedies.finding.Remedies.{Remedies}
use Rattle.predictions.specs.declared.remedies.numbers.RemedyNumbers.{RemedyNumbers}
use Rattle.predictions.specs.Questions.{given, limits_in, manner_in, scale_in, settings_of}
use Rattle.predictions.specs.declared.question.Question.{Question}

-- the migration that a question asks for, whose limits are changed to find what keeps them
abbrev pub trial_in : Question → MigrationTrial
trial_in q = record {
  scale = scale_in q;
  limits = limits_in q;
  increment = given q.has_increment q.increment;
  others = settings_of q;
  manner = manner_in q;
}

-- what was found, with links in bytes a second: a Kbit is 125 bytes
abbrev pub remedy_numbers : Remedies → RemedyNumbers
remedy_numbers r = record {
  link = min (unwrap_or r.link 0 * 125) (2 ^ 64 - 1);
  downtime = unwrap_or r.downtime 0;
  speed = unwrap_or r.speed 0;
  ending_link = min (unwrap_or r.ending.link 0 * 125) (2 ^ 64 - 1);
  ending_start = unwrap_or r.ending.start 0;
  has_link = if is_some r.link then 1 else 0;
  has_downtime = if is_some r.downtime then 1 else 0;
  has_speed = if is_some r.speed then 1 else 0;
  has_ending_link = if is_some r.ending.link then 1 else 0;
  has_ending_start = if is_some r.ending.start then 1 else 0;
  is_kept = if r.is_kept then 1 else 0;
  ends = if r.ending.ends then 1 else 0;
}
