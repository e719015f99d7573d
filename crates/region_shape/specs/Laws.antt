-- What is promised of the regions that initializers leave.
use Rattle.std.specs.Prelude.{◌≡◌, ℕ, Some, None}
use Rattle.classfile.specs.ClassFile.{ClassFile}
use Rattle.classfile.specs.Class.{IsClassFile}
use Rattle.vm_state.specs.SharedState.{Region}
use Rattle.semantics.specs.Quiet.{Environment}
use Rattle.semantics.specs.Settling.{Settles}
use Rattle.loading.specs.Families.{IsFamily, AreParentsWithin, file_in}
use Rattle.program.specs.Programs.{IsProgram}
use Rattle.program.specs.Tables.{Tables}
use Rattle.machine.specs.Linked.{program_of}
use Rattle.region_shape.specs.Shapes.{HasShape}
use Rattle.region_shape.specs.Sizes.{IsWithin}
use Rattle.region_shape.specs.Texts.{HasTexts, HaveTexts}
use Rattle.region_shape.specs.Counts.{NamesObjects, AreClosed, HoldsAll}

-- A linked program.
pub record IsLinked (P : Tables) : Type 0 where
  pub program : IsProgram P
  pub family : IsFamily P.family
  pub within : AreParentsWithin P.family

-- the class's file is one (JVMS 4.1)
abbrev pub IsFromFile : Tables → ℕ → Type 0
IsFromFile P c = (f : ClassFile) → file_in P.family c ≡ Some f → IsClassFile f

-- regions at hand that have shape
abbrev pub HaveShape : Tables → Environment → Type 0
HaveShape P env = (d : ℕ) (region : Region) → env d ≡ Some region → HasShape P d region

-- ---- shape

-- What an initializer leaves has shape.
abbrev pub SettledHaveShape : Type 0
SettledHaveShape =
    (P : Tables) → IsLinked P → (env : Environment) → HaveShape P env → (c n : ℕ) (region : Region) → IsFromFile P c
    → Settles (program_of P) env c n region → HasShape P c region

-- It has no more objects, and no array of more elements, than it cost.
abbrev pub SettledAreWithin : Type 0
SettledAreWithin =
    (P : Tables) → IsLinked P → (env : Environment) → HaveShape P env → (c n : ℕ) (region : Region) → IsFromFile P c
    → Settles (program_of P) env c n region → IsWithin n region

-- ---- names

-- What an initializer leaves names such objects alone as there are, where the regions at hand do and the class's own
-- region is not at hand yet.
abbrev pub SettledNameObjects : Type 0
SettledNameObjects =
    (P : Tables) → IsProgram P → (env : Environment) → AreClosed env → (c n : ℕ) (region : Region) → env c ≡ None
    → Settles (program_of P) env c n region → NamesObjects env c region

-- What an initializer leaves holds all the objects that it made.
abbrev pub SettledHoldAll : Type 0
SettledHoldAll =
    (P : Tables) (env : Environment) (c n : ℕ) (region : Region) → Settles (program_of P) env c n region
    → HoldsAll region.pool

-- ---- strings

-- What an initializer leaves has strings of the program alone, where the regions at hand have.
abbrev pub SettledHaveTexts : Type 0
SettledHaveTexts =
    (P : Tables) → IsProgram P → (env : Environment) → HaveTexts P env → (c n : ℕ) (region : Region)
    → Settles (program_of P) env c n region → HasTexts P region
