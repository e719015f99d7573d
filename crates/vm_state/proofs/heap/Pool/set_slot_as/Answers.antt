use Rattle.std.proofs.Common.{◌∙◌, ◌<◌, List, length, sym, subst, ap, arith}
use Rattle.std.specs.Prelude.{IsSome}
use Rattle.vm_state.specs.declared.value.Value.{Value}
use Rattle.vm_state.specs.Objects.{HeldObjects}
use Rattle.vm_state.specs.steps.Objects.{numbers_in, object_at_place, with_monitor_in}
use Rattle.vm_state.specs.SharedState.{object_with_slot, with_slot}
use Rattle.vm_state.specs.Pools.{pool_by}
use Rattle.vm_state.proofs.KeptLemmas.{inside_of, held_changed}
use Rattle.vm_state.proofs.heap.Pool.set_slot_as.Goals as goal

pub index_mut-held-requires : goal.index_mut-held-requires
index_mut-held-requires c =
    let later = c.self.inside.later.items in
    let kept = c.self.inside.kept.items in
    let P : HeldObjects → Type 0 = λ r. IsSome (object_at_place r.objects c.in-Some.place c.args.number) in
    let inside : c.in-Some.place < length kept =
    inside_of c.self.inside.owners (numbers_in later kept) kept c.in-Some.place c.args.number
    (subst P (sym c.self.view_is) c.in-Some.ensures.held) in
    omega (arith, inside, c.self.inside.kept.ok.0)

pub invariant_of-self : goal.invariant_of-self
invariant_of-self c =
    let P : HeldObjects → Type 0 = λ r. IsSome (object_at_place r.objects c.in-Some.place c.args.number) in
    let held = c.index_mut-held.result.now in
    let changed = held_changed c.self.inside.owners c.self.inside.later.items c.self.inside.kept.items
    c.self.inside.count
    c.in-Some.place c.args.number (object_with_slot c.args.slot c.args.value) held
    (record held { slots = c.set_as.new.self })
    c.self.invariant.1 c.self.invariant.0 (subst P (sym c.self.view_is) c.in-Some.ensures.held)
    c.index_mut-held.ensures.value
    (ap (λ (vs : List Value). record (with_monitor_in c.self.inside.owners c.args.number held) { slots = vs })
    c.in_ok-set_as.ensures.ok) in
    (changed.ascends, changed.fits, c.self.invariant.2, omega (arith, c.self.invariant.3, changed.same))

pub returns-in_ok-set_as-clause-ok : goal.returns-in_ok-set_as-clause-ok
returns-in_ok-set_as-clause-ok c =
    let P : HeldObjects → Type 0 = λ r. IsSome (object_at_place r.objects c.in-Some.place c.args.number) in
    let held = c.index_mut-held.result.now in
    let changed = held_changed c.self.inside.owners c.self.inside.later.items c.self.inside.kept.items
    c.self.inside.count
    c.in-Some.place c.args.number (object_with_slot c.args.slot c.args.value) held
    (record held { slots = c.set_as.new.self })
    c.self.invariant.1 c.self.invariant.0 (subst P (sym c.self.view_is) c.in-Some.ensures.held)
    c.index_mut-held.ensures.value
    (ap (λ (vs : List Value). record (with_monitor_in c.self.inside.owners c.args.number held) { slots = vs })
    c.in_ok-set_as.ensures.ok) in
    changed.pool
    ∙ ap (λ (r : HeldObjects). with_slot (pool_by r) c.args.number c.args.slot c.args.value) c.self.view_is
