use Rattle.std.proofs.Common.{◌≡◌, ◌<◌, ℕ, slice_index_or}
use Rattle.vm_state.specs.declared.classes.ClassState.TheVariants.{Initialized}
use Rattle.init_engine.specs.Turns.{world_of}
use Rattle.thread_runner.proofs.advance.all_initialized.Given as goal

abbrev pub invariant-loop-class : goal.invariant-loop-class
invariant-loop-class l =
    (k d : ℕ) → k < l.class-index → (world_of l.world).shared.states (slice_index_or l.classes k d) ≡ Initialized
