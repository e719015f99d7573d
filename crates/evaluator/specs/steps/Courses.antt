-- The state in which an initializer goes on by many instructions in a row.
use Rattle.std.specs.Prelude.{◌≡◌, ◌≤◌, ◌-◌, ℕ, List, Some}
use Rattle.vm_state.specs.declared.frame.Segment.{Segment}
use Rattle.vm_state.specs.declared.object.Object.{Object}
use Rattle.vm_state.specs.declared.value.Maker.{Maker}
use Rattle.vm_state.specs.declared.value.Maker.TheVariants.{Class}
use Rattle.vm_state.specs.declared.classes.Usability.TheVariants.{Ready}
use Rattle.vm_state.specs.Output.{Print}
use Rattle.vm_state.specs.Segments.{frames_of}
use Rattle.vm_state.specs.SharedState.{Region, SharedState, pool_of}
use Rattle.vm_state.specs.SharedTables.{SharedTables}
use Rattle.vm_state.specs.Shares.{shared_of}
use Rattle.vm_state.specs.Statics.{usable}
use Rattle.semantics.specs.Programs.{Program}
use Rattle.semantics.specs.Quiet.{Environment}
use Rattle.evaluator.specs.steps.Steps.{GoesOn}

-- No class but c may be used, and no object is held but those that c made.
pub record Alone (c : ℕ) (sh : SharedState) : Type 0 where
  pub ready : (d : ℕ) → usable 0 (sh.states d) ≡ Ready → d ≡ c
  pub held : (maker : Maker) (n : ℕ) (o : Object) → (pool_of sh maker).at n ≡ Some o → maker ≡ Class c

abbrev pub IsAlone : ℕ → SharedTables → Type 0
IsAlone c s = (p : List Print) → Alone c (shared_of s p)

-- Instructions of c's initializer, as many as are counted and each at a cost of 1, lead from these frames and this
-- region to those.
pub record GoesAhead (P : Program) (c limit count : ℕ) (old : Segment) (own : Region) (new : Segment) (last : Region)
    : Type 0 where
  pub goes : (env : Environment) (left : ℕ) → count ≤ left
      → GoesOn P env c (frames_of old) own left (frames_of new) last (left - count)
  pub most : count ≤ limit
