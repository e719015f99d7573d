use Rattle.std.proofs.Common.{◌≡◌, ◌∙◌, ◌<◌, length, sym, subst, ap, arith, rules}
use Rattle.std.specs.Prelude.{IsSome}
use Rattle.vm_state.specs.Objects.{HeldObjects}
use Rattle.vm_state.specs.steps.Objects.{numbers_in, object_at_place}
use Rattle.vm_state.proofs.KeptLemmas.{inside_of, length_numbers, length_objects}
use Rattle.vm_state.proofs.heap.Pool.searched_or_past.Goals as goal

pub returns-in-Some-clause-none : goal.returns-in-Some-clause-none
returns-in-Some-clause-none c h =
    let w = c.self.inside.owners in
    let later = c.self.inside.later.items in
    let kept = c.self.inside.kept.items in
    let P : HeldObjects → Type 0 = λ r. IsSome (object_at_place r.objects c.in-Some.place c.args.number) in
    let inside : c.in-Some.place < length kept =
    inside_of w (numbers_in later kept) kept c.in-Some.place c.args.number
    (subst P (sym c.self.view_is) c.in-Some.ensures.held) in
    let all = length_numbers later kept c.self.invariant.1 in
    let size : length c.args.self.now.objects ≡ length kept =
    sym (ap (λ (r : HeldObjects). length r.objects) c.self.view_is)
    ∙ length_objects w (numbers_in later kept) kept all in
    absurd (omega (arith, inside, size, h))

pub returns-in-None-clause-held : goal.returns-in-None-clause-held
returns-in-None-clause-held c h =
    let w = c.self.inside.owners in
    let later = c.self.inside.later.items in
    let kept = c.self.inside.kept.items in
    let all = length_numbers later kept c.self.invariant.1 in
    let size : length c.args.self.now.objects ≡ length kept =
    sym (ap (λ (r : HeldObjects). length r.objects) c.self.view_is)
    ∙ length_objects w (numbers_in later kept) kept all in
    let count : c.len.result ≡ length kept = search rules in
    absurd (omega (arith, count, size, h))
