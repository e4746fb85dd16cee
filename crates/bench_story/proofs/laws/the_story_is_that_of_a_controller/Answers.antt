use Rattle.bench_story.proofs.Courses.{told_after}
use Rattle.bench_story.proofs.laws.the_story_is_that_of_a_controller.Goals as goal

pub returns-clause-known : goal.returns-clause-known
returns-clause-known c = λ hosts. (told_after hosts).known

pub returns-clause-said : goal.returns-clause-said
returns-clause-said c = λ hosts. (told_after hosts).said
