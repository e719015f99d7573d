use Rattle.std.proofs.Common.{◌≡◌, ◌∙◌, Some, None, sym, ap, rules}
use Rattle.std.specs.Prelude.{slice_get}
use Rattle.vm_state.specs.declared.object.Object.{Object}
use Rattle.vm_state.specs.Objects.{HeldObjects}
use Rattle.vm_state.specs.steps.Objects.{numbers_in, with_monitor_in}
use Rattle.vm_state.proofs.KeptLemmas.{stands_there, nothing_numbered, nothing_kept}
use Rattle.vm_state.proofs.heap.Pool.lent.Goals as goal

pub returns-in-Some-kept_at : goal.returns-in-Some-kept_at
returns-in-Some-kept_at c =
    let later = c.self.inside.later.items in
    let kept = c.self.inside.kept.items in
    let n = c.in-Some.number in
    let k = c.in-Some-kept_at.kept.now in
    let number : slice_get (numbers_in later kept) c.args.place ≡ Some n = search rules in
    let object : slice_get kept c.args.place ≡ Some k = search rules in
    let is : c.of-object.result ≡ with_monitor_in c.self.inside.owners n k = search rules in
    ap (λ (o : Object). Some (n, o)) is
    ∙ (sym (stands_there c.self.inside.owners (numbers_in later kept) kept c.args.place n k number object)
    ∙ ap (λ (r : HeldObjects). slice_get r.objects c.args.place) c.self.view_is)

pub returns-in-None-kept_at : goal.returns-in-None-kept_at
returns-in-None-kept_at c =
    let later = c.self.inside.later.items in
    let kept = c.self.inside.kept.items in
    let object : slice_get kept c.args.place ≡ None = search rules in
    sym (nothing_kept c.self.inside.owners (numbers_in later kept) kept c.args.place object)
    ∙ ap (λ (r : HeldObjects). slice_get r.objects c.args.place) c.self.view_is

pub returns-in-None : goal.returns-in-None
returns-in-None c =
    let later = c.self.inside.later.items in
    let kept = c.self.inside.kept.items in
    let number : slice_get (numbers_in later kept) c.args.place ≡ None = search rules in
    sym (nothing_numbered c.self.inside.owners (numbers_in later kept) kept c.args.place number)
    ∙ ap (λ (r : HeldObjects). slice_get r.objects c.args.place) c.self.view_is
