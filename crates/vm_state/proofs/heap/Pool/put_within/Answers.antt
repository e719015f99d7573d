use Rattle.std.proofs.Common.{◌≡◌, ◌∙◌, ◌<◌, ℕ, List, Some, length, sym, subst, ap, arith, rules}
use Rattle.std.specs.Prelude.{IsSome, option_map}
use Rattle.vm_state.specs.declared.value.Value.{Value}
use Rattle.vm_state.specs.Objects.{HeldObjects, kept_of, object_in}
use Rattle.vm_state.specs.steps.ClassWords.{expected_class}
use Rattle.vm_state.specs.steps.Objects.{numbers_in, object_at_place, with_monitor_in}
use Rattle.vm_state.specs.SharedState.{object_with_slot, with_slot}
use Rattle.vm_state.specs.Pools.{pool_by}
use Rattle.vm_state.proofs.ListLemmas.{item_at}
use Rattle.vm_state.proofs.KeptLemmas.{form_of_kept, formed, found_kept, inside_of, held_changed, length_numbers}
use Rattle.vm_state.proofs.KeptLemmas.{length_objects}
use Rattle.vm_state.proofs.heap.Pool.put_within.Goals as goal

pub index_mut-held-requires : goal.index_mut-held-requires
index_mut-held-requires c =
    let later = c.self.inside.later.items in
    let kept = c.self.inside.kept.items in
    let P : HeldObjects → Type 0 = λ r. IsSome (object_at_place r.objects c.place_or_past-place.result c.args.number) in
    let size : length c.args.self.now.objects ≡ length c.self.inside.kept.items =
    sym (ap (λ (r : HeldObjects). length r.objects) c.self.view_is)
    ∙ length_objects c.self.inside.owners (numbers_in c.self.inside.later.items c.self.inside.kept.items)
    c.self.inside.kept.items (length_numbers c.self.inside.later.items c.self.inside.kept.items c.self.invariant.1) in
    let first : c.place_or_past-place.result < length c.self.inside.kept.items = search rules in
    let found_there = c.place_or_past-place.ensures.held (omega (arith, first, size)) in
    let inside : c.place_or_past-place.result < length kept =
    inside_of c.self.inside.owners (numbers_in later kept) kept c.place_or_past-place.result c.args.number
    (subst P (sym c.self.view_is) found_there) in
    omega (arith, inside, c.self.inside.kept.ok.0)

pub invariant_of-self-2 : goal.invariant_of-self-2
invariant_of-self-2 c =
    let P : HeldObjects → Type 0 = λ r. IsSome (object_at_place r.objects c.place_or_past-place.result c.args.number) in
    let size : length c.args.self.now.objects ≡ length c.self.inside.kept.items =
    sym (ap (λ (r : HeldObjects). length r.objects) c.self.view_is)
    ∙ length_objects c.self.inside.owners (numbers_in c.self.inside.later.items c.self.inside.kept.items)
    c.self.inside.kept.items (length_numbers c.self.inside.later.items c.self.inside.kept.items c.self.invariant.1) in
    let first : c.place_or_past-place.result < length c.self.inside.kept.items = search rules in
    let found_there = c.place_or_past-place.ensures.held (omega (arith, first, size)) in
    let held = c.index_mut-held.result.now in
    let changed = held_changed c.self.inside.owners c.self.inside.later.items c.self.inside.kept.items
    c.self.inside.count
    c.place_or_past-place.result c.args.number (object_with_slot c.args.slot c.args.value) held
    (record held { slots = c.put_within.new.self })
    c.self.invariant.1 c.self.invariant.0 (subst P (sym c.self.view_is) found_there)
    c.index_mut-held.ensures.value
    (ap (λ (vs : List Value). record (with_monitor_in c.self.inside.owners c.args.number held) { slots = vs })
    c.in_ok-count.ensures.some) in
    (changed.ascends, changed.fits, c.self.invariant.2, omega (arith, c.self.invariant.3, changed.same))

pub returns-clause-form : goal.returns-clause-form
returns-clause-form c =
    let P : HeldObjects → Type 0 = λ r. IsSome (object_at_place r.objects c.place_or_past-place.result c.args.number) in
    let size : length c.args.self.now.objects ≡ length c.self.inside.kept.items =
    sym (ap (λ (r : HeldObjects). length r.objects) c.self.view_is)
    ∙ length_objects c.self.inside.owners (numbers_in c.self.inside.later.items c.self.inside.kept.items)
    c.self.inside.kept.items (length_numbers c.self.inside.later.items c.self.inside.kept.items c.self.invariant.1) in
    let first : c.place_or_past-place.result < length c.self.inside.kept.items = search rules in
    let found_there = c.place_or_past-place.ensures.held (omega (arith, first, size)) in
    let kept = c.self.inside.kept.items in
    let numbers = numbers_in c.self.inside.later.items kept in
    let held = c.index_mut-held.result.now in
    let there = subst P (sym c.self.view_is) found_there in
    let inside = inside_of c.self.inside.owners numbers kept c.place_or_past-place.result c.args.number there in
    let found : Some held ≡ option_map kept_of (object_in c.args.self.now.objects c.args.number) =
    sym (item_at kept c.place_or_past-place.result held inside c.index_mut-held.ensures.value)
    ∙ found_kept c.self.inside.owners numbers kept c.self.inside.count c.place_or_past-place.result
    c.args.number c.self.invariant.0
    there
    ∙ ap (λ (r : HeldObjects). option_map kept_of (object_in r.objects c.args.number)) c.self.view_is in
    form_of_kept (pool_by c.args.self.now) c.args.number held (expected_class c.args.expected) found
    (c.is_expected.ensures c.if-not-is_expected.false)
    ∙ ap (λ (n : ℕ). formed (expected_class c.args.expected) n) (sym c.in_ok-count.ensures.count)

pub returns-clause-some : goal.returns-clause-some
returns-clause-some c =
    let P : HeldObjects → Type 0 = λ r. IsSome (object_at_place r.objects c.place_or_past-place.result c.args.number) in
    let size : length c.args.self.now.objects ≡ length c.self.inside.kept.items =
    sym (ap (λ (r : HeldObjects). length r.objects) c.self.view_is)
    ∙ length_objects c.self.inside.owners (numbers_in c.self.inside.later.items c.self.inside.kept.items)
    c.self.inside.kept.items (length_numbers c.self.inside.later.items c.self.inside.kept.items c.self.invariant.1) in
    let first : c.place_or_past-place.result < length c.self.inside.kept.items = search rules in
    let found_there = c.place_or_past-place.ensures.held (omega (arith, first, size)) in
    let held = c.index_mut-held.result.now in
    let changed = held_changed c.self.inside.owners c.self.inside.later.items c.self.inside.kept.items
    c.self.inside.count
    c.place_or_past-place.result c.args.number (object_with_slot c.args.slot c.args.value) held
    (record held { slots = c.put_within.new.self })
    c.self.invariant.1 c.self.invariant.0 (subst P (sym c.self.view_is) found_there)
    c.index_mut-held.ensures.value
    (ap (λ (vs : List Value). record (with_monitor_in c.self.inside.owners c.args.number held) { slots = vs })
    c.in_ok-count.ensures.some) in
    changed.pool
    ∙ ap (λ (r : HeldObjects). with_slot (pool_by r) c.args.number c.args.slot c.args.value) c.self.view_is
