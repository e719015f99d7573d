-- What is said of the initialization of a class before it runs holds of whatever runs for it: in each world of a run of
-- a linked program, and at build time.
use Rattle.std.specs.Prelude.{◌≡◌, ℕ, ◌<◌, List, ◌∷◌, length, Some, IsSome, slice_get}
use Rattle.std.specs.List.{Contains}
use Rattle.vm_state.specs.declared.frame.Frame.{Frame}
use Rattle.vm_state.specs.declared.frame.Activity.TheVariants.{Method}
use Rattle.vm_state.specs.declared.initialization.Level.{Level}
use Rattle.vm_state.specs.declared.value.Maker.TheVariants.{Class}
use Rattle.semantics.specs.Rows.{Needs, run_row}
use Rattle.semantics.specs.Steps.{Going}
use Rattle.semantics.specs.Worlds.{World, Run}
use Rattle.semantics.specs.Quiet.{Environment, Refusal, Stop, Refused}
use Rattle.semantics.specs.Settling.{StoppedBy}
use Rattle.semantics.specs.Bounds.{IsBounded}
use Rattle.semantics.specs.Soundness.{StandsOn, IsBegunBy, IsStart, IsClosed}
use Rattle.loading.specs.Families.{IsFamily, AreParentsWithin}
use Rattle.program.specs.Programs.{IsProgram}
use Rattle.program.specs.Tables.{Tables, order_in}
use Rattle.machine.specs.Linked.{program_of}
use Rattle.machine.specs.Table.{row}
use Rattle.use_graph.specs.declared.mark.Mark.{Mark}
use Rattle.use_graph.specs.declared.mark.Mark.TheVariants as marks
use Rattle.use_graph.specs.Scopes.{bounds_of}
use Rattle.use_graph.specs.Uses.{MayRun, MayUse, IsUse, HasMark}

-- Each instruction of the table does no more than its code says.
abbrev pub TableIsBounded : Type 0
TableIsBounded = (P : Tables) → IsBounded (program_of P) (bounds_of P)

-- ---- in the worlds of a run

-- What stands on the initialization of a class are methods that may run for it, and what is begun or needed from there
-- are classes that it may use.
pub record RunsByCode (P : Tables) (w : World) : Type 0 where
  pub frames : (t : ℕ) (fs : List Frame) (ls : List Level) → slice_get w.threads t ≡ Some (Going fs ls)
      → (c : ℕ) (f : Frame) → StandsOn c f fs ls
      → (d : ℕ) × (k : ℕ) × (f.activity ≡ Method d k) × MayRun P c d k
  pub begins : (t : ℕ) (fs : List Frame) (ls : List Level) → slice_get w.threads t ≡ Some (Going fs ls)
      → (c d : ℕ) → IsBegunBy c d ls → MayUse P c d
  -- also where the class is only now needed
  pub needs : (t : ℕ) (f : Frame) (fs : List Frame) (l : Level) (ls : List Level)
      → slice_get w.threads t ≡ Some (Going (f ∷ fs) (l ∷ ls)) → (d : ℕ)
      → run_row t (Class l.initialization.class) w.shared (row P f) ≡ Needs d → MayUse P l.initialization.class d

abbrev pub WorldsRunByCode : Type 0
WorldsRunByCode =
    (P : Tables) (first last : World) (schedule : List ℕ) → IsStart (program_of P) first →
    Run (program_of P) first schedule last → RunsByCode P last

-- What is initialized before a class is a use of it.
abbrev pub ParentsAreUses : Type 0
ParentsAreUses =
    (P : Tables) → IsProgram P → IsFamily P.family → (c p : ℕ) → c < length P.family → Contains (order_in P c) p →
    MayUse P c p

-- Whatever a class of a linked program may use is one of its classes.
abbrev pub UsesAreWithin : Type 0
UsesAreWithin =
    (P : Tables) → IsProgram P → IsFamily P.family → AreParentsWithin P.family → (c e : ℕ) → c < length P.classes →
    MayUse P c e → IsUse P c e

-- ---- at build time

-- the marks of what is barred at build time
pub data IsBarring : Mark → Type 0 where
  Prints : IsBarring marks.Prints
  Monitors : IsBarring marks.Monitors
  ForeignWrite : IsBarring marks.ForeignWrite
  ForeignRead : IsBarring marks.ForeignRead

-- A class whose code bears none of them, with all its uses at hand, and with nothing to be read that refers elsewhere,
-- is not barred when its initializer runs: where it is stopped it is refused.
abbrev pub StopsByCode : Type 0
StopsByCode =
    (P : Tables) → IsProgram P → IsFamily P.family → AreParentsWithin P.family → (env : Environment) (c : ℕ) →
    c < length P.classes → ((mark : Mark) → IsBarring mark → HasMark P c mark → ⊥) →
    ((d : ℕ) → IsUse P c d → IsSome (env d)) → IsClosed (program_of P) (IsUse P c) env c →
    (budget : ℕ) (stop : Stop) → StoppedBy (program_of P) env c budget stop → (why : Refusal) × (stop ≡ Refused why)
