use Rattle.std.proofs.Common.{◌-◌, ◌≤◌, suc, refl, sym, arith}
use Rattle.machine.specs.Linked.{program_of}
use Rattle.semantics.specs.Alone.{Unpaid}
use Rattle.vm_state.specs.Segments.{frames_of}
use Rattle.region_shape.specs.Regions.{region_of, environment_of}
use Rattle.evaluator.proofs.CourseLemmas.{begins_there}
use Rattle.evaluator.proofs.StepsLemmas.{further, stops_further, goes_over, goes_further}
use Rattle.evaluator.proofs.settling.run_frames.Goals as goal

pub loop-left-init : goal.loop-left-init
loop-left-init c = record {
  goes = begins_there c.args.given.program.now (environment_of c.args.given.regions.now)
      c.args.given.class c.args.budget
      (frames_of c.args.segment.now) (region_of c.args.store.now.own);
  within = omega arith;
  steps = c.new-courses.ensures.steps c.args.given.program.now;
  alone = c.new-courses.ensures.alone c.args.given.class;
}

pub loop-left-preserved : goal.loop-left-preserved
loop-left-preserved c =
    let P = program_of c.args.given.program.now in
    let env = environment_of c.args.given.regions.now in
    let left = c.loop-left.left in
    let ahead = c.in_ok-ahead in
    let fits : ahead.ahead ≤ left = omega (arith, ahead.ensures.ahead.most) in
    let before = goes_further P env c.args.given.class c.loop-left.invariant.goes
    (ahead.ensures.ahead.goes env left fits) in
    let step = rw c.in-On.is at c.in_ok-take_step.ensures in
    record {
      goes = further P env c.args.given.class (suc (left - 1 - ahead.ahead))
          (left - 1 - ahead.ahead - c.take_step.new.store.made) c.saturating_sub-left.result before step
          (omega (arith, ahead.ensures.ahead.most, c.loop-left-test.true)) (sym c.saturating_sub-left.ensures);
      within = omega (arith, c.loop-left.invariant.within, c.saturating_sub-left.ensures);
      steps = ahead.ensures.steps;
      alone = ahead.ensures.alone;
    }

pub returns-in-Over : goal.returns-in-Over
returns-in-Over c =
    let P = program_of c.args.given.program.now in
    let env = environment_of c.args.given.regions.now in
    let left = c.loop-left.left in
    let ahead = c.in_ok-ahead in
    let fits : ahead.ahead ≤ left = omega (arith, ahead.ensures.ahead.most) in
    let before = goes_further P env c.args.given.class c.loop-left.invariant.goes
    (ahead.ensures.ahead.goes env left fits) in
    let step = rw c.in-Over.is at c.in_ok-take_step.ensures in
    let rest = left - 1 - ahead.ahead - c.take_step.new.store.made in
    goes_over P env c.args.given.class
    (further P env c.args.given.class (suc (left - 1 - ahead.ahead)) rest rest before step
    (omega (arith, ahead.ensures.ahead.most, c.loop-left-test.true)) refl)

pub returns-in-Stopped : goal.returns-in-Stopped
returns-in-Stopped c =
    let P = program_of c.args.given.program.now in
    let env = environment_of c.args.given.regions.now in
    let left = c.loop-left.left in
    let ahead = c.in_ok-ahead in
    let fits : ahead.ahead ≤ left = omega (arith, ahead.ensures.ahead.most) in
    let before = goes_further P env c.args.given.class c.loop-left.invariant.goes
    (ahead.ensures.ahead.goes env left fits) in
    let step = rw c.in-Stopped.is at c.in_ok-take_step.ensures in
    stops_further P env c.args.given.class (suc (left - 1 - ahead.ahead)) before step
    (omega (arith, ahead.ensures.ahead.most, c.loop-left-test.true))

pub returns : goal.returns
returns c =
    stops_further (program_of c.args.given.program.now)
    (environment_of c.args.given.regions.now) c.args.given.class 0
    c.loop-left.invariant.goes Unpaid (omega (arith, c.loop-left-test.false))
