use Rattle.std.proofs.Common.{◌≡◌, ℕ, Some, take}
use Rattle.std.specs.List.{Contains}
use Rattle.built_in.specs.Keys.{NameAndType}
use Rattle.hierarchy.specs.steps.Declarations.{Grows, IsListed}
use Rattle.hierarchy.specs.steps.HierarchyTables.{wanted_in}
use Rattle.hierarchy.specs.steps.MemberKeys.{AreNumbers}
use Rattle.hierarchy.specs.steps.Reaches.{classes_noted}
use Rattle.hierarchy.proofs.hierarchy.Hierarchy.add_declarations.Given as goal

abbrev pub invariant-loop-reach : goal.invariant-loop-reach
invariant-loop-reach l = record {
  goes : Grows l.self l.wanted l.key l.initial.declared.items l.declared.items;
  there : (name : NameAndType) (class k : ℕ) → AreNumbers l.self.texts name l.key
      → wanted_in l.wanted l.self.family name class ≡ Some k
      → Contains (classes_noted (take l.reach-index l.row)) class → IsListed l.declared.items l.key class;
}
