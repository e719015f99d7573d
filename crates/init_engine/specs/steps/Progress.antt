-- What a step of a thread says, in the words of the definition.
use Rattle.std.specs.Prelude.{◌≡◌, ℕ, List, [], ◌∷◌, ◌++◌, Option, Some, None}
use Rattle.vm_state.specs.declared.ends.End.{End}
use Rattle.vm_state.specs.declared.initialization.Frames.{Frames}
use Rattle.vm_state.specs.SharedTables.{SharedTables}
use Rattle.vm_state.specs.Output.{Print}
use Rattle.vm_state.specs.SharedState.{SharedState, with_print}
use Rattle.vm_state.specs.Shares.{Begins, shared_of}
use Rattle.vm_state.specs.Stacks.{segment_of, levels_of}
use Rattle.semantics.specs.Programs.{Program}
use Rattle.program.specs.Tables.{Tables, statics_in}
use Rattle.machine.specs.Effects.{going}
use Rattle.machine.specs.Linked.{program_of}
use Rattle.semantics.specs.Steps.{Thread, Ended as HasEnded, After, initialization_of, step_thread}
use Rattle.init_engine.specs.declared.procedure.Progress.{Progress}
use Rattle.init_engine.specs.declared.procedure.Progress.TheVariants.{Moved, Printed, Ended, Waits}

abbrev pub Stands : Option End → Thread → Frames → Type 0
Stands None thread s = thread ≡ going s
Stands (Some end) thread s = thread ≡ HasEnded end

-- what a step of thread t leaves, by what the code says of it
abbrev pub left_by_step : Progress → ℕ → Frames → SharedState → Option After
left_by_step Moved t s sh = Some (record { shared = sh; thread = going s })
left_by_step (Printed text) t s sh =
    Some (record { shared = with_print sh (record { thread = t; text = text }); thread = going s })
left_by_step (Ended end) t s sh = Some (record { shared = sh; thread = HasEnded end })
left_by_step Waits t s sh = None

-- the code's step is the definition's
abbrev pub Steps : Program → Frames → SharedTables → Progress → Frames → SharedTables → Type 0
Steps P old before progress new after =
    (p : List Print) → step_thread P old.thread (shared_of before p) (going old) ≡ left_by_step progress old.thread new
    (shared_of after p)

-- a thread began the initialization of a class: it stands highest, over the frames that were there
pub record HasBegun (P : Tables) (class : ℕ) (old : Frames) (before : SharedTables) (new : Frames)
    (after : SharedTables) : Type 0 where
  pub shared : Begins before after class old.thread (statics_in P class)
  pub segment : segment_of new ≡ []
  pub levels : levels_of new
      ≡ record { initialization = initialization_of (program_of P) class; under = segment_of old } ∷ levels_of old

-- where there is no step the thread and what threads share stay as they were
abbrev pub StaysPut : Progress → Frames → Frames → SharedTables → SharedTables → Type 0
StaysPut Moved old new before after = Unit {0}
StaysPut (Printed text) old new before after = Unit {0}
StaysPut (Ended end) old new before after = Unit {0}
StaysPut Waits old new before after = (new ≡ old) × (after ≡ before)

-- what thread t printed comes behind what was printed before
abbrev pub HasPrinted : Progress → ℕ → List Print → List Print → Type 0
HasPrinted Moved t before after = after ≡ before
HasPrinted (Printed text) t before after = after ≡ before ++ record { thread = t; text = text } ∷ []
HasPrinted (Ended end) t before after = after ≡ before
HasPrinted Waits t before after = after ≡ before

-- it printed nothing
abbrev pub PrintsNothing : Progress → Type 0
PrintsNothing r = (t : ℕ) (before : List Print) → HasPrinted r t before before
