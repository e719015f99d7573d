use Rattle.std.proofs.Common.{◌≡◌, ◌∙◌, ◌++◌, ◌∷◌, [], ℕ, List, Some, length, get_or, slice_get, refl, sym, ap}
use Rattle.std.proofs.Common.{arith}
use Rattle.std.proofs.lemmas.List.{length_push, map-id}
use Rattle.std.proofs.lemmas.Iterator.Adapters.{YieldsList-from_vec}
use Rattle.std.proofs.lemmas.Iterator.Consumers.{YieldsList-turn, YieldsList-end}
use Rattle.vm_state.specs.declared.object.Object.{Object}
use Rattle.vm_state.specs.declared.kept.Kept.{Kept}
use Rattle.vm_state.specs.steps.Objects.{numbers_of, objects_of, with_monitor_in}
use Rattle.vm_state.proofs.KeptLemmas.{next_there, objects_next, objects_none}
use Rattle.vm_state.proofs.heap.add_objects.Goals as goal

pub loop-held-init : goal.loop-held-init
loop-held-init c = record {
  index = refl;
  objects = c.requires.none ∙ sym (objects_none c.args.owners.now (numbers_of c.args.plain c.args.later.now));
}

pub loop-held-preserved : goal.loop-held-preserved
loop-held-preserved c =
    let w = c.args.owners.now in
    let ns : List ℕ = numbers_of c.args.plain c.args.later.now in
    let i : ℕ = length c.loop-held.yielded in
    let turn = YieldsList-turn (YieldsList-from_vec {s = c.into_iter-held-iterator.result} c.args.kept.items
    c.into_iter-held-iterator.ensures.into_iter_gives.0
    (c.into_iter-held-iterator.ensures.into_iter_gives.1 ∙ c.args.kept.ok.0))
    c.loop-held.yielded c.loop-held.held-iterator c.loop-held.yielded_by c.next.result c.next.new.self c.in-Some.held
    c.in-Some.is c.next.ensures.steps in
    let n : ℕ = get_or ns i 0 in
    let there : slice_get ns i ≡ Some n =
    next_there c.args.plain c.args.later.now i (omega (arith, turn.0, c.requires.all)) in
    let at : slice_get ns c.loop-held.place ≡ Some n =
    ap (λ (j : ℕ). slice_get ns j) c.loop-held.invariant.index ∙ there in
    record {
      index = omega (arith, c.loop-held.invariant.index, length_push c.loop-held.yielded c.in-Some.held);
      objects = c.in_ok-add_object.ensures n at
          ∙ (ap (λ (os : List (ℕ × Object)). os ++ (n, with_monitor_in w n c.in-Some.held) ∷ [])
          c.loop-held.invariant.objects
          ∙ sym (objects_next w ns c.loop-held.yielded n c.in-Some.held there));
    }

pub overflow_add-place : goal.overflow_add-place
overflow_add-place c =
    let turn = YieldsList-turn (YieldsList-from_vec {s = c.into_iter-held-iterator.result} c.args.kept.items
    c.into_iter-held-iterator.ensures.into_iter_gives.0
    (c.into_iter-held-iterator.ensures.into_iter_gives.1 ∙ c.args.kept.ok.0))
    c.loop-held.yielded c.loop-held.held-iterator c.loop-held.yielded_by c.next.result c.next.new.self c.in-Some.held
    c.in-Some.is c.next.ensures.steps in
    omega (arith, turn.0, c.loop-held.invariant.index, c.args.kept.small, c.args.kept.ok.0)

pub returns : goal.returns
returns c =
    let end = YieldsList-end (YieldsList-from_vec {s = c.into_iter-held-iterator.result} c.args.kept.items
    c.into_iter-held-iterator.ensures.into_iter_gives.0
    (c.into_iter-held-iterator.ensures.into_iter_gives.1 ∙ c.args.kept.ok.0))
    c.loop-held.yielded c.loop-held.held-iterator c.loop-held.yielded_by c.next.result c.next.new.self c.in-None.is
    c.next.ensures.steps in
    c.loop-held.invariant.objects
    ∙ ap (λ (ks : List Kept). objects_of c.args.owners.now (numbers_of c.args.plain c.args.later.now) ks)
    (sym (map-id c.loop-held.yielded) ∙ end.0)
