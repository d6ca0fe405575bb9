use Rattle.session_answers.proofs.OneCourse.{one_course}
use Rattle.session_answers.proofs.laws.without_meetings_there_is_one_course.Goals as goal

pub returns : goal.returns
returns c = one_course
