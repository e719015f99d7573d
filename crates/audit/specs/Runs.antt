-- What the threads of a run really run and initialize is what they may reach by code.
use Rattle.std.specs.Prelude.{◌≡◌, ◌⊎◌, ℕ, ◌<◌, List, Some, length, slice_get}
use Rattle.std.specs.List.{Contains}
use Rattle.vm_state.specs.declared.frame.Frame.{Frame}
use Rattle.vm_state.specs.declared.frame.Activity.{Activity}
use Rattle.vm_state.specs.declared.frame.Activity.TheVariants as activities
use Rattle.vm_state.specs.declared.initialization.Level.{Level}
use Rattle.semantics.specs.Steps.{Going}
use Rattle.semantics.specs.Worlds.{World, Run, lazy_start}
use Rattle.semantics.specs.Images.{Image, image_start}
use Rattle.program.specs.Programs.{IsProgram}
use Rattle.program.specs.Tables.{Tables}
use Rattle.machine.specs.Linked.{program_of}
use Rattle.audit.specs.Reach.{Method, Initialization, MayReach}

-- A frame stands somewhere on a thread's stack: above its initializations, or under one of them.
abbrev pub IsOnStack : Frame → List Frame → List Level → Type 0
IsOnStack f fs ls = Contains fs f ⊎ ((l : Level) × Contains ls l × Contains l.under f)

-- it begins the thread of an entry, or is of a method that may be reached
abbrev pub IsReachedActivity : Tables → List ℕ → Activity → Type 0
IsReachedActivity P entries (activities.Start c) = Contains entries c
IsReachedActivity P entries (activities.Method d k) = MayReach P entries (Method d k)

-- What threads run and initialize in a world is what they may reach.
pub record RunsReached (P : Tables) (entries : List ℕ) (w : World) : Type 0 where
  pub frames : (t : ℕ) (fs : List Frame) (ls : List Level) → slice_get w.threads t ≡ Some (Going fs ls)
      → (f : Frame) → IsOnStack f fs ls → IsReachedActivity P entries f.activity
  pub initializations : (t : ℕ) (fs : List Frame) (ls : List Level) → slice_get w.threads t ≡ Some (Going fs ls)
      → (l : Level) → Contains ls l → l.initialization.class < length P.classes
      → MayReach P entries (Initialization l.initialization.class)

-- one of the two starts from these entries: the lazy one, or that from an image
abbrev pub StartsFrom : Tables → List ℕ → World → Type 0
StartsFrom P entries w = (w ≡ lazy_start (program_of P) entries)
    ⊎ ((I : Image) × (w ≡ image_start (program_of P) I entries))

-- Threads run what they may reach in each world to which a run of these entries leads.
abbrev pub ThreadsRunReached : Type 0
ThreadsRunReached =
    (P : Tables) → IsProgram P → (entries : List ℕ) (first last : World) (schedule : List ℕ) →
    StartsFrom P entries first → Run (program_of P) first schedule last → RunsReached P entries last
