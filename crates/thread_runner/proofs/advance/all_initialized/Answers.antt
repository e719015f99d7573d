use Rattle.std.proofs.Common.{◌≡◌, ◌<◌, ℕ, arith, length, slice_index_or, subst}
use Rattle.std.proofs.lemmas.List.{get_or_default}
use borrow.Author.Count.{below_more}
use Rattle.vm_state.specs.declared.classes.ClassState.TheVariants.{Initialized}
use Rattle.init_engine.specs.Turns.{world_of}
use Rattle.thread_runner.proofs.advance.all_initialized.Goals as goal

pub loop-class-preserved : goal.loop-class-preserved
loop-class-preserved c = λ k d short.
    let xs = c.args.classes.now in
    let i = c.loop-class.class-index in
    let within : i < length xs = omega arith in
    below_more (λ (j : ℕ). (world_of c.args.world.now).shared.states (slice_index_or xs j d) ≡ Initialized) i
    (λ j below. c.loop-class.invariant j d below)
    (subst (λ (x : ℕ). (world_of c.args.world.now).shared.states x ≡ Initialized) (get_or_default xs i 0 d within)
    (c.is_initialized.ensures.yes c.if-not-is_initialized.false)) k short
