use Rattle.part_courses.proofs.Courses.{courses}
use Rattle.part_courses.proofs.laws.store_courses.Goals as goal

pub returns : goal.returns
returns c = courses
