-- Shared state in which regions are put in place, class by class.
use Rattle.std.specs.Prelude.{ℕ, Option, Some, None, nat_lt, ◌&&◌}
use Rattle.vm_state.specs.SharedState.{Region, SharedState, set_region, set_state}
use Rattle.vm_state.specs.declared.classes.ClassState.TheVariants.{Initialized}
use Rattle.semantics.specs.Images.{Image}

-- with the region of a class in place, if there is one
abbrev pub with_class : Option Region → ℕ → SharedState → SharedState
with_class None c sh = sh
with_class (Some r) c sh = set_state (set_region sh c r) c Initialized

-- the classes of an image below a number
abbrev pub first_classes : Image → ℕ → Image
first_classes I n = record { holds = λ c. nat_lt c n && I.holds c; region = I.region }
