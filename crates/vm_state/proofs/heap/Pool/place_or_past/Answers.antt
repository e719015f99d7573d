use Rattle.std.proofs.Common.{◌≡◌, ◌∙◌, ◌<◌, ◌-◌, length, sym, subst, ap, arith, rules}
use Rattle.std.specs.Prelude.{IsSome}
use Rattle.vm_state.specs.Objects.{HeldObjects}
use Rattle.vm_state.specs.steps.Objects.{numbers_in, object_at_place}
use Rattle.vm_state.proofs.KeptLemmas.{length_numbers, length_objects, plain_there}
use Rattle.vm_state.proofs.heap.Pool.place_or_past.Goals as goal

pub returns-then-number-self-clause-held : goal.returns-then-number-self-clause-held
returns-then-number-self-clause-held c h =
    let later = c.self.inside.later.items in
    let kept = c.self.inside.kept.items in
    let first : c.args.number < c.self.inside.plain = search rules in
    let inside : c.args.number < length kept - length later = omega (arith, first, c.self.invariant.3) in
    let P : HeldObjects → Type 0 = λ r. IsSome (object_at_place r.objects c.args.number c.args.number) in
    subst P c.self.view_is (plain_there c.self.inside.owners later kept c.args.number c.self.invariant.1 inside)

pub returns-then-number-self-clause-none : goal.returns-then-number-self-clause-none
returns-then-number-self-clause-none c h =
    let later = c.self.inside.later.items in
    let kept = c.self.inside.kept.items in
    let first : c.args.number < c.self.inside.plain = search rules in
    let size : length c.args.self.now.objects ≡ length kept =
    sym (ap (λ (r : HeldObjects). length r.objects) c.self.view_is)
    ∙ length_objects c.self.inside.owners (numbers_in later kept) kept (length_numbers later kept c.self.invariant.1) in
    absurd (omega (arith, first, c.self.invariant.3, size, h))
