-- The step that ends a thread otherwise than as a fault is an instruction that halts so.
use Rattle.std.proofs.Common.{ℕ, List, [], ◌∷◌, Option, Some}
use Rattle.std.proofs.Common.{None}
use Rattle.std.proofs.Common.{Bool, true, false}
use Rattle.built_in.specs.declared.class_id.ClassId.{ClassId}
use Rattle.vm_state.specs.declared.ends.End.TheVariants.{Returned, Uncaught, Faulted}
use Rattle.vm_state.specs.declared.ends.FaultKind.{FaultKind}
use Rattle.vm_state.specs.declared.classes.Usability.{Usability}
use Rattle.vm_state.specs.declared.classes.Usability.TheVariants.{Ready, Fresh, Busy, Broken}
use Rattle.vm_state.specs.declared.frame.Frame.{Frame}
use Rattle.vm_state.specs.declared.initialization.Initialization.{Initialization}
use Rattle.vm_state.specs.declared.initialization.Level.{Level}
use Rattle.vm_state.specs.declared.value.Maker.TheVariants as makers
use Rattle.vm_state.specs.declared.value.Name.{Name}
use Rattle.vm_state.specs.SharedState.{SharedState}
use Rattle.vm_state.specs.Statics.{usable}
use Rattle.semantics.specs.Programs.{Program}
use Rattle.semantics.specs.Rows.{Outcome, Next, Raise, Halt, Result, Moved, Needs, Waits, run_row}
use Rattle.semantics.specs.Moves.{Left, Stand, Throw, Stop, left_in, moved, stand, caught, unwound}
use Rattle.semantics.specs.Steps.{Thread, Going, Ended, After, standing, settled, going_on, instructed, fails}
use Rattle.semantics.specs.Steps.{initializes, passes, step_parents, step_initialization}
use Rattle.audit.proofs.HaltsLemmas.{IsFor, HaltsFor, LeadsFor}

module _ (P : Program) (Why : FaultKind → Type 0) where
  -- where a thread ended by a fault, it is for such a reason
  abbrev pub EndsFor : Thread → Type 0
  EndsFor (Going fs ls) = Unit {0}
  EndsFor (Ended Returned) = Unit {0}
  EndsFor (Ended (Uncaught class)) = Unit {0}
  EndsFor (Ended (Faulted kind)) = IsFor Why kind

  abbrev IsLeftFor : Left → Type 0
  IsLeftFor (Stand fs) = Unit {0}
  IsLeftFor (Throw x class) = Unit {0}
  IsLeftFor (Stop kind) = IsFor Why kind

  stands : (o : Option (List Frame)) → IsLeftFor (stand o)
  stands None = tt
  stands (Some fs) = tt

  left_for : (outcome : Outcome) (fs : List Frame) → HaltsFor Why outcome → IsLeftFor (left_in outcome fs)
  left_for (Next move) [] h = tt
  left_for (Next move) (f ∷ fs) h = stands (moved move f fs)
  left_for (Raise x class) fs h = tt
  left_for (Halt kind) fs h = h

  unwinds : (x : Name) (class : ClassId) (fs : List Frame) → IsLeftFor (unwound P x class fs)
  unwinds x class [] = tt
  unwinds x class (f ∷ fs) =
      by (P.handler f.activity f.place class) (unwound P x class fs) (unwinds x class fs)
    where
      by : (o : Option ℕ) (outer : Left) → IsLeftFor outer → IsLeftFor (caught o x f fs outer)
      by None outer h = h
      by (Some place) outer h = stands _

  stood : (fs : List Frame) (ls : List Level) → EndsFor (standing fs ls)
  stood [] [] = tt
  stood [] (l ∷ ls) = tt
  stood (f ∷ fs) ls = tt

  settles : (left : Left) (ls : List Level) → IsLeftFor left → EndsFor (settled left ls)
  settles (Stand fs) ls h = stood fs ls
  settles (Throw x class) [] h = tt
  settles (Throw x class) (l ∷ ls) h = tt
  settles (Stop kind) ls h = h

  goes : (left : Left) (fs : List Frame) (ls : List Level) → IsLeftFor left → EndsFor (going_on P left fs ls)
  goes (Stand new) fs ls h = stood new ls
  goes (Throw x class) fs ls h = settles (unwound P x class fs) ls (unwinds x class fs)
  goes (Stop kind) fs ls h = h

  abbrev pub FollowsFor : Option After → Type 0
  FollowsFor None = Unit {0}
  FollowsFor (Some a) = EndsFor a.thread

  pub instruction_for : (sh : SharedState) (t : ℕ) (fs : List Frame) (ls : List Level) (r : Result) → LeadsFor Why r
      → FollowsFor (instructed P sh t fs ls r)
  instruction_for sh t fs ls (Moved outcome new) h = goes (left_in outcome fs) fs ls (left_for outcome fs h)
  instruction_for sh t fs ls (Needs c) h = tt
  instruction_for sh t fs ls Waits h = tt

  fails_for : (c : ℕ) (under : List Frame) (ls : List Level) (r : Result) → LeadsFor Why r
      → FollowsFor (fails P c under ls r)
  fails_for c under ls (Moved outcome new) h = goes (left_in outcome under) under ls (left_for outcome under h)
  fails_for c under ls (Needs d) h = tt
  fails_for c under ls Waits h = tt

  -- the failing of a class ends no thread so
  module _ (failing : (c t : ℕ) (x : Name) (sh : SharedState)
      → LeadsFor Why (run_row t (makers.Class c) sh (P.failing c x)))
      (orphaned : (c t : ℕ) (sh : SharedState) → LeadsFor Why (run_row t (makers.Class c) sh (P.orphaned c))) where
    initializes_for : (sh : SharedState) (e : Initialization) (under : List Frame) (ls : List Level)
        (o : Option Frame) → EndsFor (initializes sh e under ls o).thread
    initializes_for sh e under ls None = stood under ls
    initializes_for sh e under ls (Some f) = tt

    passes_for : (sh : SharedState) (t : ℕ) (e : Initialization) (under : List Frame) (ls : List Level) (p : ℕ)
        (ps : List ℕ) (u : Usability) → FollowsFor (passes P sh t e under ls p ps u)
    passes_for sh t e under ls p ps Ready = tt
    passes_for sh t e under ls p ps Fresh = tt
    passes_for sh t e under ls p ps Busy = tt
    passes_for sh t e under ls p ps Broken = fails_for e.class under ls _ (orphaned e.class t sh)

    parents_for : (sh : SharedState) (t : ℕ) (e : Initialization) (under : List Frame) (ls : List Level)
        (left : List ℕ) (begun : Bool) → FollowsFor (step_parents P sh t e under ls left begun)
    parents_for sh t e under ls (p ∷ ps) begun = passes_for sh t e under ls p ps (usable t (sh.states p))
    parents_for sh t e under ls [] false = initializes_for sh e under ls (P.initializer e.class)
    parents_for sh t e under ls [] true = stood under ls

    pub initialization_for : (sh : SharedState) (t : ℕ) (e : Initialization) (under : List Frame) (ls : List Level)
        (o : Option Name) → FollowsFor (step_initialization P sh t e under ls o)
    initialization_for sh t e under ls (Some x) = fails_for e.class under ls _ (failing e.class t x sh)
    initialization_for sh t e under ls None = parents_for sh t e under ls e.left e.begun
