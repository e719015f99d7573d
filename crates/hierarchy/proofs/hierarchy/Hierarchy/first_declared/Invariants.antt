use Rattle.std.proofs.Common.{◌≡◌, ℕ, None, take}
use Rattle.std.specs.List.{Contains}
use Rattle.built_in.specs.Keys.{NameAndType}
use Rattle.hierarchy.specs.Resolution.{instance_method_in}
use Rattle.hierarchy.specs.steps.MemberKeys.{IsLookup}
use Rattle.hierarchy.specs.steps.Reaches.{classes_noted}
use Rattle.hierarchy.proofs.hierarchy.Hierarchy.first_declared.Given as goal

abbrev pub invariant-loop-reach : goal.invariant-loop-reach
invariant-loop-reach l =
    (name : NameAndType) (c : ℕ) → IsLookup l.self.texts name l.key
    → Contains (classes_noted (take l.reach-index l.reach-items)) c → instance_method_in l.self.family name c ≡ None
