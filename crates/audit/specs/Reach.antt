-- What the threads of some entries may run and initialize, as far as code says before they run (JVMS 5.2, 5.5).
use Rattle.std.specs.Prelude.{◌≡◌, ℕ, ◌<◌, List, Some, length}
use Rattle.std.specs.List.{Contains}
use Rattle.program.specs.Tables.{Tables, initializer_in, main_in, order_in}
use Rattle.use_graph.specs.Uses.{Calls, IsDeclared, Needs}

-- what a thread comes to: a method of a given class, or the initialization of one
pub data Part : Type 0 where
  Method : (class index : ℕ) → Part
  Initialization : (class : ℕ) → Part

-- The least set that has the entries' classes and their `main`s, what methods among it call and need, and of a class
-- among it what is initialized before it, and its class initialization method.
pub data MayReach (P : Tables) (entries : List ℕ) : Part → Type 0 where
  main : {c m : ℕ} → Contains entries c → main_in P c ≡ Some m → IsDeclared P c m → MayReach P entries (Method c m)
  entry : {c : ℕ} → Contains entries c → c < length P.classes → MayReach P entries (Initialization c)
  called : {d k e j : ℕ} → MayReach P entries (Method d k) → Calls P d k e j → IsDeclared P e j
      → MayReach P entries (Method e j)
  needed : {d k e : ℕ} → MayReach P entries (Method d k) → Needs P d k e → e < length P.classes
      → MayReach P entries (Initialization e)
  before : {c p : ℕ} → MayReach P entries (Initialization c) → Contains (order_in P c) p → p < length P.classes
      → MayReach P entries (Initialization p)
  initializer : {c m : ℕ} → MayReach P entries (Initialization c) → initializer_in P c ≡ Some m → IsDeclared P c m
      → MayReach P entries (Method c m)
