use Rattle.std.proofs.Common.{◌≡◌, slice_get, ◌∙◌, ◌<◌, ◌-◌, length, sym, subst, ap, arith, rules, inl, inr}
use Rattle.std.specs.Prelude.{IsSome, option_copied, option_map}
use Rattle.std.proofs.lemmas.Option.{slice_get_past}
use Rattle.vm_state.specs.Objects.{HeldObjects, kept_of, object_in}
use Rattle.vm_state.specs.steps.Objects.{numbers_in, object_at_place}
use Rattle.vm_state.proofs.ListLemmas.{item_at}
use Rattle.vm_state.proofs.KeptLemmas.{below_or_not, found_kept, inside_of, length_numbers, length_objects, plain_there}
use Rattle.vm_state.proofs.heap.Pool.kept.Goals as goal

pub index-requires : goal.index-requires
index-requires c =
    let first : c.args.number < c.self.inside.plain = search rules in
    omega (arith, first, c.self.invariant.1, c.self.invariant.3, c.self.inside.kept.ok.0)

pub returns-then-number-self : goal.returns-then-number-self
returns-then-number-self c =
    let later = c.self.inside.later.items in
    let kept = c.self.inside.kept.items in
    let first : c.args.number < c.self.inside.plain = search rules in
    let plain : c.args.number < length kept - length later = omega (arith, first, c.self.invariant.3) in
    let there = plain_there c.self.inside.owners later kept c.args.number c.self.invariant.1 plain in
    let inside = inside_of c.self.inside.owners (numbers_in later kept) kept c.args.number c.args.number there in
    sym (item_at kept c.args.number c.index.result.now inside c.index.ensures)
    ∙ (found_kept c.self.inside.owners (numbers_in later kept) kept c.self.inside.count c.args.number c.args.number
    c.self.invariant.0 there
    ∙ ap (λ (r : HeldObjects). option_map kept_of (object_in r.objects c.args.number)) c.self.view_is)

pub returns : goal.returns
returns c =
    let w = c.self.inside.owners in
    let later = c.self.inside.later.items in
    let kept = c.self.inside.kept.items in
    let numbers = numbers_in later kept in
    let place = c.searched_or_past.result in
    let P : HeldObjects → Type 0 = λ r. IsSome (object_at_place r.objects place c.args.number) in
    let size : length c.args.self.now.objects ≡ length kept =
    sym (ap (λ (r : HeldObjects). length r.objects) c.self.view_is)
    ∙ length_objects w numbers kept (length_numbers later kept c.self.invariant.1) in
    let got : option_copied c.kept_at.result ≡ slice_get kept place =
    rw c.as_slice.ensures.value at c.kept_at.ensures in
    got ∙ elim (below_or_not place (length c.args.self.now.objects)) [
      | inl h ↦ found_kept w numbers kept c.self.inside.count place c.args.number c.self.invariant.0
          (subst P (sym c.self.view_is) (c.searched_or_past.ensures.held h))
          ∙ ap (λ (r : HeldObjects). option_map kept_of (object_in r.objects c.args.number)) c.self.view_is
      | inr h ↦ slice_get_past kept place (omega (arith, h, size))
          ∙ sym (ap (option_map kept_of) (c.searched_or_past.ensures.none h))
    ]
