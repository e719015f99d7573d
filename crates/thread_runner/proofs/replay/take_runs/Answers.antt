use Rattle.std.proofs.Common.{inr, refl}
use Rattle.machine.specs.Linked.{program_of}
use Rattle.init_engine.specs.Turns.{world_of}
use Rattle.thread_runner.proofs.ReplayLemmas.{run_of_more, some_steps, turn_fault}
use Rattle.thread_runner.proofs.replay.take_runs.Goals as goal

pub loop-place-init : goal.loop-place-init
loop-place-init c = record { keeps = c.new-table.ensures c.args.program.now; run = refl }

pub take_run-requires : goal.take_run-requires
take_run-requires c = record {
  some = some_steps c.args.runs.now c.loop-place.place (0, 0) c.requires c.loop-place-test.true;
  keeps = c.loop-place.invariant.keeps;
}

pub returns-in-Ok-false-clause-err : goal.returns-in-Ok-false-clause-err
returns-in-Ok-false-clause-err c =
    inr (turn_fault (program_of c.args.program.now) (world_of c.args.world.now) (world_of c.loop-place.world)
    c.args.runs.now c.loop-place.place (0, 0) c.loop-place-test.true c.loop-place.invariant.run
    (c.in-Ok-false.ensures.no c.in-Ok-false.field-0-test))

pub loop-place-preserved : goal.loop-place-preserved
loop-place-preserved c = record {
  keeps = c.in-Ok-true.ensures.keeps;
  run = run_of_more (program_of c.args.program.now) (world_of c.args.world.now) (world_of c.loop-place.world)
      (world_of c.take_run.new.world) c.args.runs.now c.loop-place.place (0, 0) c.loop-place-test.true
      c.loop-place.invariant.run (c.in-Ok-true.ensures.yes c.in-Ok-true.field-0-test);
}
