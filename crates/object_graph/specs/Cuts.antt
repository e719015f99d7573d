-- Regions without the objects that no static field reaches.
use Rattle.std.specs.Prelude.{◌≡◌, ◌↔◌, ℕ, List, Option, Some, None}
use Rattle.vm_state.specs.declared.object.Object.{Object}
use Rattle.vm_state.specs.SharedState.{Region}
use Rattle.semantics.specs.Quiet.{Environment}
use Rattle.semantics.specs.Images.{image_start}
use Rattle.semantics.specs.Worlds.{Observation, Shows}
use Rattle.program.specs.Programs.{IsProgram}
use Rattle.program.specs.Tables.{Tables}
use Rattle.machine.specs.Linked.{program_of}
use Rattle.region_shape.specs.Wholes.{AreWhole}
use Rattle.object_graph.specs.declared.name_set.ObjectName.{ObjectName}
use Rattle.object_graph.specs.Images.{start_of}
use Rattle.object_graph.specs.Reached.{IsReached, object_of}

-- A region of a class with those of another's objects alone that are so. The statics and the count are the same.
pub record IsCutRegion (These : ObjectName → Type 0) (c : ℕ) (whole part : Region) : Type 0 where
  pub fields : part.fields ≡ whole.fields
  pub count : part.pool.count ≡ whole.pool.count
  pub kept : (n : ℕ) → These (record { class = c; number = n }) → part.pool.at n ≡ whole.pool.at n
  pub only : (n : ℕ) (object : Object) → part.pool.at n ≡ Some object → These (record { class = c; number = n })

-- the same, where there is a region
abbrev pub IsCutAt : (ObjectName → Type 0) → ℕ → Option Region → Option Region → Type 0
IsCutAt These c None None = Unit {0}
IsCutAt These c None (Some part) = ⊥
IsCutAt These c (Some whole) None = ⊥
IsCutAt These c (Some whole) (Some part) = IsCutRegion These c whole part

-- These are the other regions with those objects alone that some static field reaches.
abbrev pub IsCutOf : Tables → Environment → Environment → Type 0
IsCutOf P whole part = (c : ℕ) → IsCutAt (IsReached P whole) c (whole c) (part c)

-- some static field reaches each object that is held
abbrev pub AreReached : Tables → Environment → Type 0
AreReached P env = (x : ObjectName) (object : Object) → object_of env x ≡ Some object → IsReached P env x

-- ---- laws

-- The objects that no static field reaches make no difference to what runs show.
abbrev pub CutUnseen : Type 0
CutUnseen =
    (P : Tables) (whole part : Environment) (entries : List ℕ) → IsProgram P → AreWhole P whole
    → IsCutOf P whole part → (s : Observation)
    → Shows (program_of P) (image_start (program_of P) (start_of P whole) entries) s
    ↔ Shows (program_of P) (image_start (program_of P) (start_of P part) entries) s

-- Regions determine what is left of them.
abbrev pub OneCut : Type 0
OneCut =
    (P : Tables) (whole first second : Environment) → IsCutOf P whole first → IsCutOf P whole second
    → (c : ℕ) → first c ≡ second c

-- Of regions whose objects are all reached nothing is left out.
abbrev pub NothingLeftOut : Type 0
NothingLeftOut =
    (P : Tables) (whole part : Environment) → AreReached P whole → IsCutOf P whole part → (c : ℕ) → part c ≡ whole c
