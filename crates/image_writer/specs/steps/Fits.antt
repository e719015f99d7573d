-- Numbers that fit their types: what the types of values say, which no definition of regions keeps.
use Rattle.std.specs.Prelude.{◌≡◌, ℕ, ◌<◌, ◌^◌, Some, FitsSigned, length}
use Rattle.std.specs.List.{All}
use Rattle.std.specs.Int.{w32, w64}
use Rattle.vm_state.specs.declared.value.Value.{Value}
use Rattle.vm_state.specs.declared.value.Value.TheVariants as values
use Rattle.vm_state.specs.declared.object.Object.{Object}
use Rattle.vm_state.specs.SharedState.{Region}
use Rattle.semantics.specs.Quiet.{Environment}
use Rattle.program.specs.Tables.{Tables, statics_in}

-- an int has 32 bits, a long 64, and the number of a class 32
abbrev pub FitsType : Value → Type 0
FitsType (values.Int n) = FitsSigned w32 n
FitsType (values.Long n) = FitsSigned w64 n
FitsType (values.OfClass c n) = c < 2 ^ 32
FitsType _ = Unit {0}

-- the first so many static fields, and the slots of the objects
pub record RegionFits (count : ℕ) (region : Region) : Type 0 where
  pub statics : (k : ℕ) → k < count → FitsType (region.fields k)
  pub slots : (n : ℕ) (object : Object) → region.pool.at n ≡ Some object → All FitsType object.slots

-- a class's region, if there is one
abbrev pub ClassFits : Tables → Environment → ℕ → Type 0
ClassFits P env c = (region : Region) → env c ≡ Some region → RegionFits (length (statics_in P c)) region
