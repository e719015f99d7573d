use Rattle.std.proofs.Common.{◌∙◌, ℕ, List, refl, sym, ap, arith}
use Rattle.std.proofs.lemmas.List.{length_push, map-id}
use Rattle.std.proofs.lemmas.Iterator.Adapters.{YieldsList-from_vec}
use Rattle.std.proofs.lemmas.Iterator.Consumers.{YieldsList-turn, YieldsList-end}
use Rattle.vm_state.specs.declared.object.Object.{Object}
use Rattle.object_graph.specs.steps.Kept.{kept_from}
use Rattle.object_graph.proofs.KeptLemmas.{one_kept}
use Rattle.object_graph.proofs.cutting.found_objects.Goals as goal

pub loop-held-init : goal.loop-held-init
loop-held-init c = record { index = refl; kept = c.new-kept.ensures.items }

pub loop-held-preserved : goal.loop-held-preserved
loop-held-preserved c = record {
  index = omega (arith, c.loop-held.invariant.index, length_push c.loop-held.yielded c.in-Some.held);
  kept = one_kept c.args.found.now c.args.class c.loop-held.index c.loop-held.yielded c.loop-held.kept.items
      c.push_if.new.objects.items c.in-Some.held c.has.result c.loop-held.invariant.index c.has.ensures
      c.loop-held.invariant.kept c.in_ok-push_if.ensures;
}

pub overflow_add-index : goal.overflow_add-index
overflow_add-index c =
    let turn = YieldsList-turn (YieldsList-from_vec {s = c.into_iter-held-iterator.result} c.args.objects.items
    c.into_iter-held-iterator.ensures.into_iter_gives.0
    (c.into_iter-held-iterator.ensures.into_iter_gives.1 ∙ c.args.objects.ok.0))
    c.loop-held.yielded c.loop-held.held-iterator c.loop-held.yielded_by c.next.result c.next.new.self c.in-Some.held
    c.in-Some.is c.next.ensures.steps in
    omega (arith, turn.0, c.loop-held.invariant.index, c.args.objects.small, c.args.objects.ok.0)

pub returns : goal.returns
returns c =
    let end = YieldsList-end (YieldsList-from_vec {s = c.into_iter-held-iterator.result} c.args.objects.items
    c.into_iter-held-iterator.ensures.into_iter_gives.0
    (c.into_iter-held-iterator.ensures.into_iter_gives.1 ∙ c.args.objects.ok.0))
    c.loop-held.yielded c.loop-held.held-iterator c.loop-held.yielded_by c.next.result c.next.new.self c.in-None.is
    c.next.ensures.steps in
    c.loop-held.invariant.kept
    ∙ ap (λ (os : List (ℕ × Object)). kept_from c.args.found.now c.args.class 0 os)
    (sym (map-id c.loop-held.yielded) ∙ end.0)
