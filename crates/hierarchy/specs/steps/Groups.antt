-- What references are resolved by together.
use Rattle.std.specs.Prelude.{◌≡◌, length}
use Rattle.loading.specs.Families.{Family}
use Rattle.hierarchy.specs.Hierarchies.{NumberedFamily}
use Rattle.hierarchy.specs.steps.Answers.{AreAnswers}
use Rattle.hierarchy.specs.steps.Declarations.{AreDeclared, AreWhole}
use Rattle.hierarchy.specs.steps.ParentSteps.{AreSteps}
use Rattle.hierarchy.specs.declared.resolve_ahead.ReferenceGroup.{ReferenceGroup}
use Rattle.hierarchy.specs.declared.resolve_ahead.Ways.{Ways}
use Rattle.hierarchy.specs.declared.wanted.Wanted.{Wanted}

-- The declarations are all there, and nothing is known yet.
pub record IsGroup (h : NumberedFamily) (wanted : Wanted) (group : ReferenceGroup) : Type 0 where
  pub declared : AreDeclared h wanted group.declared.items
  pub wholes : AreWhole h wanted group.declared.items
  pub answers : AreAnswers h wanted group.declared.items 0 group.answers.items

-- There is room for what is known of each class.
pub record AreWays (family : Family) (ways : Ways) : Type 0 where
  pub order : AreSteps family ways.order.steps.items ways.order.parents.items
  pub own : length ways.own.items ≡ length family
  pub rows : length ways.rows.items ≡ length family
