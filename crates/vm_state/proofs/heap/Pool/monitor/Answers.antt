use Rattle.std.proofs.Common.{◌∙◌, sym, subst, ap}
use Rattle.std.specs.Prelude.{IsSome}
use Rattle.vm_state.specs.Objects.{HeldObjects, object_in}
use Rattle.vm_state.specs.SharedState.{monitor_of}
use Rattle.vm_state.specs.steps.Objects.{numbers_in, object_at_place}
use Rattle.vm_state.proofs.KeptLemmas.{found_monitor}
use Rattle.vm_state.proofs.heap.Pool.monitor.Goals as goal

pub returns-in-Some : goal.returns-in-Some
returns-in-Some c =
    let later = c.self.inside.later.items in
    let kept = c.self.inside.kept.items in
    let P : HeldObjects → Type 0 = λ r. IsSome (object_at_place r.objects c.in-Some.field-0 c.args.number) in
    c.monitor.ensures
    ∙ (found_monitor c.self.inside.owners (numbers_in later kept) kept c.self.inside.count c.in-Some.field-0
    c.args.number c.self.invariant.0 (subst P (sym c.self.view_is) c.in-Some.ensures.held)
    ∙ ap (λ (r : HeldObjects). monitor_of (object_in r.objects c.args.number)) c.self.view_is)
