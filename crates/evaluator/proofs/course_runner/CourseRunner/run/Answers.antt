use Rattle.std.proofs.Common.{◌∙◌, [], ap}
use Rattle.vm_state.specs.Segments.{frames_of}
use Rattle.vm_state.specs.Shares.{empty_region, shared_of}
use Rattle.courses.specs.Courses.{over}
use Rattle.region_shape.specs.Regions.{region_of}
use Rattle.evaluator.proofs.CourseLemmas.{alone_with, alone_without, course_stays, region_with, went_ahead}
use Rattle.evaluator.proofs.course_runner.CourseRunner.run.Goals as goal

pub returns-clause-alone : goal.returns-clause-alone
returns-clause-alone c p =
    let class = c.args.given.class in
    let put = shared_of c.initialize.new.self p in
    let ran = shared_of c.run_segment.new.shared p in
    let first = alone_with class (shared_of c.args.self.now.shared p) put (region_of c.replace-fields.result)
    (c.in_ok-initialize.ensures.ok p) (c.requires.alone p) in
    alone_without class ran (shared_of c.take-fields.new.self p) empty_region (c.take-fields.ensures.left p)
    (course_stays c.args.given.program.now class c.in_ok-count.count (frames_of c.args.segment.now) put
    (over (frames_of c.run_segment.new.segment) ran) first (c.in_ok-count.ensures.course.run p))

pub returns-clause-ahead : goal.returns-clause-ahead
returns-clause-ahead c =
    let class = c.args.given.class in
    let before = shared_of c.args.self.now.shared [] in
    let put = shared_of c.initialize.new.self [] in
    let ran = shared_of c.run_segment.new.shared [] in
    let own = region_of c.replace-fields.result in
    let is = c.in_ok-initialize.ensures.ok [] in
    went_ahead c.args.given.program.now class c.args.most c.in_ok-count.count c.args.segment.now
    c.run_segment.new.segment
    (region_of c.args.own.now)
    (region_of (record { fields = c.take-fields.result.0; objects = c.take-fields.result.1 })) put ran
    (alone_with class before put own is (c.requires.alone []))
    (region_with class before put own is ∙ ap region_of c.replace-fields.ensures.value)
    (c.in_ok-count.ensures.course.run []) c.in_ok-count.ensures.course.most (c.take-fields.ensures.taken [])
