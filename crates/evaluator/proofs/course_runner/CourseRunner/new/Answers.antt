use Rattle.evaluator.proofs.CourseLemmas.{alone_new}
use Rattle.evaluator.proofs.course_runner.CourseRunner.new.Goals as goal

pub returns-clause-alone : goal.returns-clause-alone
returns-clause-alone c class p =
    alone_new class c.new-4.result c.new-2.result c.new-3.result p c.new-4.ensures c.new-2.ensures c.new-3.ensures
