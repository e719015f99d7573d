-- Regions that hold an object which no static field reaches.
use Rattle.std.specs.Prelude.{◌≡◌, ℕ, ◌<◌, Some, length}
use Rattle.vm_state.specs.declared.object.Object.{Object}
use Rattle.semantics.specs.Quiet.{Environment}
use Rattle.program.specs.Tables.{Tables}
use Rattle.object_graph.specs.declared.name_set.ObjectName.{ObjectName}
use Rattle.object_graph.specs.Reached.{IsReached, object_of}

abbrev name : ℕ → ℕ → ObjectName
name c n = record { class = c; number = n }

-- some static field reaches each object of a class
abbrev pub AreReachedOf : Tables → Environment → ℕ → Type 0
AreReachedOf P env c = (n : ℕ) (object : Object) → object_of env (name c n) ≡ Some object → IsReached P env (name c n)

-- the least class of which some object is not reached
pub record IsFirstIdle (P : Tables) (env : Environment) (c : ℕ) : Type 0 where
  pub class : c < length P.classes
  pub some : ¬ AreReachedOf P env c
  pub least : (d : ℕ) → d < c → AreReachedOf P env d
