use Rattle.std.proofs.Common.{◌≡◌, ◌∙◌, length, sym, ap, rules}
use Rattle.vm_state.specs.Objects.{HeldObjects}
use Rattle.vm_state.specs.steps.Objects.{numbers_in}
use Rattle.vm_state.proofs.KeptLemmas.{length_numbers, length_objects}
use Rattle.vm_state.proofs.heap.Pool.len.Goals as goal

pub returns-clause-all : goal.returns-clause-all
returns-clause-all c =
    let later = c.self.inside.later.items in
    let kept = c.self.inside.kept.items in
    let count : c.len.result ≡ length kept = search rules in
    let all = length_numbers later kept c.self.invariant.1 in
    count ∙ sym (length_objects c.self.inside.owners (numbers_in later kept) kept all)
    ∙ ap (λ (r : HeldObjects). length r.objects) c.self.view_is
