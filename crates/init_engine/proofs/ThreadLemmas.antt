-- What a step of a thread's frames is of the thread.
use Rattle.std.proofs.Common.{◌≡◌, ◌∙◌, ℕ, List, ◌++◌, ◌∷◌, [], ap, sym}
use Rattle.vm_state.specs.SharedTables.{SharedTables}
use Rattle.vm_state.specs.declared.ends.End.{End}
use Rattle.vm_state.specs.declared.initialization.Frames.{Frames}
use Rattle.vm_state.specs.Output.{Print}
use Rattle.vm_state.specs.Shares.{shared_of}
use Rattle.semantics.specs.Programs.{Program}
use Rattle.machine.specs.Effects.{going}
use Rattle.init_engine.specs.declared.procedure.Progress.{Progress}
use Rattle.init_engine.specs.declared.procedure.Progress.TheVariants as progress
use Rattle.init_engine.specs.declared.world.Thread.TheVariants.{Going, Ended}
use Rattle.init_engine.specs.declared.world.Turn.TheVariants.{Moved, Waiting}
use Rattle.init_engine.specs.steps.Progress.{Steps, StaysPut, left_by_step}
use Rattle.init_engine.specs.steps.Threads.{view_of, stepped, IsTurnOf}

module _ (P : Program) (t : ℕ) (old new : Frames) (before after : SharedTables) (printed : List Print)
    (number : old.thread ≡ t) where
  steps_as : (p : Progress) → Steps P old before p new after →
      stepped P t (view_of (Going old) before printed) ≡ left_by_step p old.thread new (shared_of after printed)
  steps_as p steps =
      ap (λ k. stepped P k (view_of (Going old) before printed)) (sym number) ∙ steps printed

  pub turn_moved : Steps P old before progress.Moved new after →
      IsTurnOf P t Moved (view_of (Going old) before printed) (view_of (Going new) after printed)
  turn_moved steps = steps_as progress.Moved steps

  pub turn_printed : (text : List ℕ) (more : List Print) → Steps P old before (progress.Printed text) new after →
      more ≡ printed ++ record { thread = old.thread; text = text } ∷ [] →
      IsTurnOf P t Moved (view_of (Going old) before printed) (view_of (Going new) after more)
  unfolding shared_of
  turn_printed text more steps is = rw (is, ← number) (steps printed)

  pub turn_ended : (end : End) → Steps P old before (progress.Ended end) new after →
      IsTurnOf P t Moved (view_of (Going old) before printed) (view_of (Ended end) after printed)
  turn_ended end steps = steps_as (progress.Ended end) steps

  pub turn_waits : (more : List Print) → Steps P old before progress.Waits new after →
      StaysPut progress.Waits old new before after → more ≡ printed →
      IsTurnOf P t Waiting (view_of (Going old) before printed) (view_of (Going new) after more)
  turn_waits more steps (frames, shared) is =
      (tt, steps_as progress.Waits steps, (ap (λ (s : Frames). going s) frames, shared, is))
