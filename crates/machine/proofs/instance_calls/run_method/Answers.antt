use Rattle.std.proofs.Common.{rules, ◌≡◌, Some}
use Rattle.hierarchy.specs.declared.member.Method.TheVariants.{BuiltIn}
use Rattle.machine.proofs.instance_calls.run_method.Goals as goal

pub returns-in-Some-BuiltIn-clause-gives : goal.returns-in-Some-BuiltIn-clause-gives
returns-in-Some-BuiltIn-clause-gives g c =
    let is : c.args.method ≡ Some (BuiltIn c.in-Some-BuiltIn.member) = search rules in
    λ p. rw is (c.run_member.ensures.gives p)
