use Rattle.std.proofs.Common.{take}
use Rattle.built_in.specs.Keys.{NameAndType}
use Rattle.graph.specs.Seen.{AreDistinct}
use Rattle.hierarchy.specs.steps.Ancestors.{IsFirst}
use Rattle.hierarchy.specs.steps.MemberKeys.{IsLookup}
use Rattle.hierarchy.specs.steps.HierarchyTables.{wanted_in}
use Rattle.hierarchy.specs.steps.Reaches.{classes_noted}
use Rattle.hierarchy.proofs.hierarchy.Hierarchy.first_among.Given as goal

abbrev pub invariant-loop-reach : goal.invariant-loop-reach
invariant-loop-reach l = (name : NameAndType) → IsLookup l.self.texts name l.key → AreDistinct l.ancestors.items
    → IsFirst (wanted_in l.wanted l.self.family name) l.ancestors.items (classes_noted (take l.reach-index l.row))
    l.first
