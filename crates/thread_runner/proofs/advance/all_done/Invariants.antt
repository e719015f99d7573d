use Rattle.std.proofs.Common.{◌≡◌, ◌<◌, ℕ, true}
use Rattle.vm_state.specs.declared.classes.ClassState.TheVariants.{Initialized}
use Rattle.init_engine.specs.Turns.{world_of}
use Rattle.thread_runner.specs.Unshared.{is_done}
use Rattle.thread_runner.proofs.advance.all_done.Given as goal

abbrev pub invariant-loop-class : goal.invariant-loop-class
invariant-loop-class l =
    (c : ℕ) → c < l.class → is_done l.done c ≡ true → (world_of l.world).shared.states c ≡ Initialized
