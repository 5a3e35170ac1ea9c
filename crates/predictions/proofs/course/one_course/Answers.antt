use Rattle.predictions.proofs.OneCourse.{one_course_lem}
use Rattle.predictions.proofs.course.one_course.Goals as goal

pub returns : goal.returns
returns c = one_course_lem
