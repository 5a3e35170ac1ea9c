use Rattle.move_schedules.proofs.OneSchedule.{one_schedule_of}
use Rattle.move_schedules.proofs.laws.one_schedule.Goals as goal

pub returns : goal.returns
returns c = one_schedule_of
