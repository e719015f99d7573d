use Rattle.std.proofs.Common.{List}
use Rattle.vm_state.specs.Output.{Print}
use Rattle.machine.specs.Linked.{program_of}
use Rattle.init_engine.specs.Turns.{world_of}
use Rattle.init_engine.specs.steps.Rests.{IsRestBelow}
use Rattle.init_engine.proofs.stuck.rest_of.Given as goal

abbrev pub invariant-loop-thread : goal.invariant-loop-thread
invariant-loop-thread l =
    (p : List Print) → IsRestBelow (program_of l.program)
    (world_of (record { threads = l.threads; shared = l.shared; printed = p })) l.thread-index l.rest
