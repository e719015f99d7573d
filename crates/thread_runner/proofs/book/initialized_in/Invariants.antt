use Rattle.std.proofs.Common.{◌≡◌}
use Rattle.vm_state.specs.declared.classes.ClassState.TheVariants.{Initialized}
use Rattle.init_engine.specs.Turns.{world_of}
use Rattle.thread_runner.proofs.FlagLemmas.{AreFlags}
use Rattle.thread_runner.proofs.book.initialized_in.Given as goal

abbrev pub invariant-loop-class : goal.invariant-loop-class
invariant-loop-class l =
    AreFlags (λ c. (world_of l.world).shared.states c ≡ Initialized) l.flags.items l.class
