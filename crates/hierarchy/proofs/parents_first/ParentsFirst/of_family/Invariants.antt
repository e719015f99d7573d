use Rattle.std.proofs.Common.{◌≡◌, map, take}
use Rattle.std.specs.List.{All}
use Rattle.hierarchy.specs.steps.ParentSteps.{HasParents, class_of_step}
use Rattle.hierarchy.proofs.parents_first.ParentsFirst.of_family.Given as goal

abbrev pub invariant-loop-class : goal.invariant-loop-class
invariant-loop-class l = record {
  known : All (HasParents l.family l.order.parents.items) l.order.steps.items;
  classes : map class_of_step l.order.steps.items ≡ take l.class-index l.classes;
}
