-- The classes of a family, each after its parents, as they are gone through many times.
use Rattle.std.specs.Prelude.{◌≡◌, ℕ, ◌≤◌, List, ◌-◌, length, map, take, drop}
use Rattle.std.specs.List.{All}
use Rattle.loading.specs.Families.{Family, IsParentsFirst, parents_in}
use Rattle.hierarchy.specs.declared.parents_first.ClassWithParents.{ClassWithParents}

abbrev pub between : ℕ → ℕ → List ℕ → List ℕ
between from to list = take (to - from) (drop from list)

abbrev pub class_of_step : ClassWithParents → ℕ
class_of_step step = step.class

-- the parents of a class stand in a list
pub record HasParents (family : Family) (parents : List ℕ) (step : ClassWithParents) : Type 0 where
  pub up : step.from ≤ step.to
  pub within : step.to ≤ length parents
  pub are : between step.from step.to parents ≡ parents_in family step.class

-- Steps go through all classes, each after its parents.
pub record AreSteps (family : Family) (steps : List ClassWithParents) (parents : List ℕ) : Type 0 where
  pub order : IsParentsFirst family (map class_of_step steps)
  pub known : All (HasParents family parents) steps
