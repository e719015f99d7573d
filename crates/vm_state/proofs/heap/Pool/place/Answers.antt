use Rattle.std.proofs.Common.{◌<◌, ◌-◌, length, subst, arith, rules}
use Rattle.std.specs.Prelude.{IsSome}
use Rattle.vm_state.specs.Objects.{HeldObjects}
use Rattle.vm_state.specs.steps.Objects.{object_at_place}
use Rattle.vm_state.proofs.KeptLemmas.{plain_there}
use Rattle.vm_state.proofs.heap.Pool.place.Goals as goal

pub returns-then-number-self-clause-held : goal.returns-then-number-self-clause-held
returns-then-number-self-clause-held c =
    let later = c.self.inside.later.items in
    let kept = c.self.inside.kept.items in
    let first : c.args.number < c.self.inside.plain = search rules in
    let inside : c.args.number < length kept - length later = omega (arith, first, c.self.invariant.3) in
    let P : HeldObjects → Type 0 = λ r. IsSome (object_at_place r.objects c.args.number c.args.number) in
    subst P c.self.view_is (plain_there c.self.inside.owners later kept c.args.number c.self.invariant.1 inside)
