use Rattle.std.proofs.Common.{refl, ◌∙◌, ◌<◌, ◌-◌, arith}
use Rattle.machine.specs.Linked.{program_of}
use Rattle.init_engine.specs.Turns.{world_of}
use Rattle.thread_runner.proofs.ReplayLemmas.{joined, no_more, none_left, not_begun}
use Rattle.thread_runner.proofs.replay.take_steps.Goals as goal

pub slices-init : goal.slices-init
slices-init c = record {
  keeps = c.requires.keeps;
  threads = refl;
  few = omega arith;
  run = not_begun (program_of c.args.program.now) (world_of c.args.world.now) c.args.steps c.args.thread;
}

pub returns-then-made-eq0-clause-no : goal.returns-then-made-eq0-clause-no
returns-then-made-eq0-clause-no c =
    let P = program_of c.args.program.now in
    let w = world_of c.args.world.now in
    let m = world_of c.slices.world in
    let ahead = c.in-Ok.ensures.ahead in
    let before = c.args.steps - c.slices.left in
    λ no. no_more P w (world_of c.run_alone.new.self) before c.args.thread c.args.steps
    (joined P w m (world_of c.run_alone.new.self) before c.in-Ok.made before c.args.thread
    (omega (arith, c.if-made-eq0.true)) c.slices.invariant.run ahead.run)
    (none_left P c.slices.world c.run_alone.new.self c.args.thread c.slices.left 18446744073709551615 c.in-Ok.made ahead
    c.if-made-eq0.true c.slices-test.true (omega arith))
    (omega (arith, c.slices.invariant.few, c.slices-test.true))

pub slices-preserved : goal.slices-preserved
slices-preserved c =
    let P = program_of c.args.program.now in
    let ahead = c.in-Ok.ensures.ahead in
    record {
      keeps = c.in-Ok.ensures.steps;
      threads = c.run_alone.ensures.threads ∙ c.slices.invariant.threads;
      few = omega (arith, c.slices.invariant.few);
      run = joined P (world_of c.args.world.now) (world_of c.slices.world) (world_of c.run_alone.new.self)
          (c.args.steps - c.slices.left) c.in-Ok.made (c.args.steps - (c.slices.left - c.in-Ok.made)) c.args.thread
          (omega (arith, c.slices.invariant.few, ahead.few)) c.slices.invariant.run ahead.run;
    }
