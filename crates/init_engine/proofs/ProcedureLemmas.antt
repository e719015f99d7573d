-- A failing initialization is a step of its thread.
use Rattle.std.proofs.Common.{◌≡◌, ℕ, List, [], ◌∷◌, Option, Some, None, refl, ◌∙◌, ap}
use Rattle.vm_state.specs.declared.classes.Usability.TheVariants.{Broken}
use Rattle.vm_state.specs.declared.initialization.Frames.{Frames}
use Rattle.vm_state.specs.declared.initialization.Initialization.{Initialization}
use Rattle.vm_state.specs.declared.initialization.Level.{Level}
use Rattle.vm_state.specs.declared.initialization.Levels.{Levels}
use Rattle.vm_state.specs.declared.frame.Frame.{Frame}
use Rattle.vm_state.specs.declared.value.Maker.TheVariants as makers
use Rattle.vm_state.specs.declared.value.Name.{Name}
use Rattle.vm_state.specs.SharedState.{SharedState}
use Rattle.vm_state.specs.Stacks.{first_of, levels_of}
use Rattle.vm_state.specs.Statics.{usable}
use Rattle.semantics.specs.Rows.{run_row}
use Rattle.semantics.specs.Steps.{After, fails, step_parents, step_initialization, step_thread}
use Rattle.program.specs.Tables.{Tables}
use Rattle.machine.specs.Effects.{going}
use Rattle.machine.specs.Failures.{failure}
use Rattle.machine.specs.Linked.{program_of}

module _ (P : Tables) (sh : SharedState) where
  -- what the failing of an initialization by a cause leaves
  abbrev pub failed : ℕ → Initialization → List Frame → List Level → Option Name → Option After
  failed t e under ls cause =
      fails (program_of P) e.class under ls (run_row t (makers.Class e.class) sh (failure P cause))

  abbrev stepped_from : ℕ → Initialization → List Frame → List Level → Option After
  stepped_from t e under ls = step_initialization (program_of P) sh t e under ls e.pending

  at_level : (s : Frames) (levels : Levels) → s.segment ≡ None → s.levels ≡ Some levels
      → step_thread (program_of P) s.thread sh (going s)
      ≡ stepped_from s.thread levels.highest.initialization levels.highest.under levels.outer
  unfolding step_thread
  at_level s levels none some = rw (none, some)

  by_pending : (t : ℕ) (e : Initialization) (under : List Frame) (ls : List Level) (x : Name) → e.pending ≡ Some x
      → stepped_from t e under ls ≡ failed t e under ls (Some x)
  by_pending t e under ls x pending = ap (step_initialization (program_of P) sh t e under ls) pending

  parents_by : (t p : ℕ) (e : Initialization) (under : List Frame) (ls : List Level) (left : List ℕ)
      → first_of left ≡ Some p → usable t (sh.states p) ≡ Broken →
      step_parents (program_of P) sh t e under ls left e.begun ≡ failed t e under ls None
  parents_by t p e under ls [] first broken = cc
  parents_by t p e under ls (q ∷ qs) first broken =
      let same : q ≡ p = cc in
      let here : usable t (sh.states q) ≡ Broken = ap (λ k. usable t (sh.states k)) same ∙ broken in
      rw here

  by_parent : (t p : ℕ) (e : Initialization) (under : List Frame) (ls : List Level) → e.pending ≡ None
      → first_of e.left ≡ Some p → usable t (sh.states p) ≡ Broken
      → stepped_from t e under ls ≡ failed t e under ls None
  by_parent t p e under ls none first broken =
      ap (step_initialization (program_of P) sh t e under ls) none ∙ parents_by t p e under ls e.left first broken

  pub fails_by_pending : (s : Frames) (levels : Levels) (x : Name) (a : Option After) → s.segment ≡ None
      → s.levels ≡ Some levels → levels.highest.initialization.pending ≡ Some x
      → failed s.thread levels.highest.initialization levels.highest.under levels.outer (Some x) ≡ a
      → step_thread (program_of P) s.thread sh (going s) ≡ a
  fails_by_pending s levels x a none some pending is =
      at_level s levels none some
      ∙ (by_pending s.thread levels.highest.initialization levels.highest.under levels.outer x pending ∙ is)

  pub fails_by_parent : (s : Frames) (levels : Levels) (p : ℕ) (a : Option After) → s.segment ≡ None
      → s.levels ≡ Some levels → levels.highest.initialization.pending ≡ None
      → first_of levels.highest.initialization.left ≡ Some p → usable s.thread (sh.states p) ≡ Broken
      → failed s.thread levels.highest.initialization levels.highest.under levels.outer None ≡ a
      → step_thread (program_of P) s.thread sh (going s) ≡ a
  fails_by_parent s levels p a none some pending first broken is =
      at_level s levels none some
      ∙ (by_parent s.thread p levels.highest.initialization levels.highest.under levels.outer pending first broken ∙ is)

pub none_else : {X : Type 0} (o : Option X) → ((x : X) → o ≡ Some x → ⊥) → o ≡ None
none_else None other = refl
none_else (Some x) other = absurd (other x refl)

pub levels_are : (s : Frames) (levels : Levels) → s.levels ≡ Some levels → levels_of s ≡ levels.highest ∷ levels.outer
levels_are s levels some = rw some
