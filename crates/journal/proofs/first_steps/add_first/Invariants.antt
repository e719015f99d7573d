use Rattle.std.proofs.Common.{◌≡◌, ◌+◌, length, take}
use Rattle.init_engine.specs.Schedules.{schedule_of}
use Rattle.journal.proofs.first_steps.add_first.Given as goal

abbrev pub invariant-loop-place : goal.invariant-loop-place
invariant-loop-place l = record {
  so_far : l.runs.items ≡ take l.place l.all;
  left : length (schedule_of l.runs.items) + l.left ≡ l.steps;
}
