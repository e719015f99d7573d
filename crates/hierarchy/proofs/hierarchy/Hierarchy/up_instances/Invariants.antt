use Rattle.std.proofs.Common.{Option}
use Rattle.hierarchy.specs.MemberLookup.{UpClasses, method_with}
use Rattle.hierarchy.specs.Selection.{is_instance_method}
use Rattle.hierarchy.specs.declared.member.Method.{Method}
use Rattle.hierarchy.specs.steps.Sought.{sought_name}
use Rattle.hierarchy.proofs.FamiliesChainLemmas.{height_at}
use Rattle.hierarchy.proofs.hierarchy.Hierarchy.up_instances.Given as goal

-- what is found from here is what is found from the beginning
abbrev pub invariant-loop-above : goal.invariant-loop-above
invariant-loop-above l = (r : Option Method)
    → UpClasses l.self.family (method_with is_instance_method l.self.family (sought_name l.sought))
    (sought_name l.sought) l.at r
    → UpClasses l.self.family (method_with is_instance_method l.self.family (sought_name l.sought))
    (sought_name l.sought) l.fn.from r

abbrev pub decreases-loop-above : goal.decreases-loop-above
decreases-loop-above l = height_at l.self.family l.at
