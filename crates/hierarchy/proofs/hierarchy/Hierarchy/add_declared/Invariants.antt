use Rattle.std.proofs.Common.{◌≡◌, ◌↔◌, ◌⊎◌, ℕ, Some, take}
use Rattle.std.specs.List.{Contains}
use Rattle.built_in.specs.Keys.{NameAndType}
use Rattle.hierarchy.specs.Resolution.{instance_method_in}
use Rattle.hierarchy.specs.steps.MemberKeys.{IsLookup}
use Rattle.hierarchy.specs.steps.Reaches.{classes_noted}
use Rattle.hierarchy.proofs.hierarchy.Hierarchy.add_declared.Given as goal

abbrev pub invariant-loop-reach : goal.invariant-loop-reach
invariant-loop-reach l =
    (name : NameAndType) (d k : ℕ) → IsLookup l.self.texts name l.key
    → Contains l.methods.items (record { class = d; index = k })
    ↔ (Contains l.initial.methods.items (record { class = d; index = k })
    ⊎ (Contains (classes_noted (take l.reach-index l.reach-items)) d ×
    (instance_method_in l.self.family name d ≡ Some k)))
