use Rattle.std.proofs.Common.{◌≤◌}
use Rattle.vm_state.specs.Segments.{frames_of}
use Rattle.method_lowering.specs.steps.StepTables.{KeepsSteps}
use Rattle.machine.specs.Linked.{program_of}
use Rattle.region_shape.specs.Regions.{region_of, environment_of}
use Rattle.evaluator.specs.steps.Courses.{IsAlone}
use Rattle.evaluator.specs.steps.Steps.{GoesOn}
use Rattle.evaluator.proofs.settling.run_frames.Given as goal

abbrev pub invariant-loop-left : goal.invariant-loop-left
invariant-loop-left l = record {
  goes : GoesOn (program_of l.given.program.now) (environment_of l.given.regions.now) l.given.class
      (frames_of l.fn.segment)
      (region_of l.fn.store.own) l.budget (frames_of l.segment) (region_of l.store.own) l.left;
  within : l.left ≤ l.budget;
  steps : KeepsSteps l.given.program.now l.courses.table;
  alone : IsAlone l.given.class l.courses.shared;
}

abbrev pub decreases-loop-left : goal.decreases-loop-left
decreases-loop-left l = l.left
