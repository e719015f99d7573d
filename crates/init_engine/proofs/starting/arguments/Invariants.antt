use Rattle.std.proofs.Common.{◌≡◌, [], replicate}
use Rattle.vm_state.specs.Objects.{one_held}
use Rattle.semantics.specs.Worlds.{argument}
use Rattle.init_engine.proofs.starting.arguments.Given as goal

abbrev pub invariant-loop : goal.invariant-loop
invariant-loop l = l.heap ≡ record { classes = []; threads = replicate l.counter (one_held argument) }
