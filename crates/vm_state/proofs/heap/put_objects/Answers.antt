use Rattle.std.proofs.Common.{◌≡◌, ◌∙◌, ◌++◌, ◌∷◌, [], ℕ, suc, List, length, take, refl, sym, subst, ap, arith}
use Rattle.std.proofs.lemmas.List.{length_push, map-id}
use Rattle.std.proofs.Math.Seq.{take-suc}
use Rattle.std.proofs.lemmas.Iterator.Adapters.{YieldsList-from_vec}
use Rattle.std.proofs.lemmas.Iterator.Consumers.{YieldsList-turn, YieldsList-end}
use Rattle.vm_state.specs.declared.object.Object.{Object}
use Rattle.vm_state.specs.Objects.{AscendsFrom, HeldObjects}
use Rattle.vm_state.proofs.KeptLemmas.{ascends_take}
use Rattle.vm_state.proofs.heap.put_objects.Goals as goal

pub loop-held-init : goal.loop-held-init
loop-held-init c = record {
  pool = ap (λ (os : List (ℕ × Object)). record c.args.pool.now { objects = os }) c.requires.none;
  prefix = refl;
}

pub put-requires : goal.put-requires
put-requires c =
    let items = c.args.objects.items in
    let yielded = c.loop-held.yielded in
    let held = c.in-Some.held in
    let i : ℕ = length yielded in
    let turn = YieldsList-turn (YieldsList-from_vec {s = c.into_iter-held-iterator.result} c.args.objects.items
    c.into_iter-held-iterator.ensures.into_iter_gives.0
    (c.into_iter-held-iterator.ensures.into_iter_gives.1 ∙ c.args.objects.ok.0))
    c.loop-held.yielded c.loop-held.held-iterator c.loop-held.yielded_by c.next.result c.next.new.self c.in-Some.held
    c.in-Some.is c.next.ensures.steps in
    let next : yielded ++ held ∷ [] ≡ take (suc i) items =
    ap (λ (ys : List (ℕ × Object)). ys ++ held ∷ []) c.loop-held.invariant.prefix
    ∙ (ap (λ (x : ℕ × Object). take i items ++ x ∷ []) turn.1 ∙ sym (take-suc items i held turn.0)) in
    let P : HeldObjects → Type 0 = λ r. AscendsFrom 0 (r.objects ++ held ∷ []) r.count in
    subst P (sym c.loop-held.invariant.pool)
    (subst (λ (os : List (ℕ × Object)). AscendsFrom 0 os c.args.pool.now.count) (sym next)
    (ascends_take 0 items c.args.pool.now.count (suc i) c.requires.ascending))

pub loop-held-preserved : goal.loop-held-preserved
loop-held-preserved c =
    let items = c.args.objects.items in
    let yielded = c.loop-held.yielded in
    let held = c.in-Some.held in
    let i : ℕ = length yielded in
    let turn = YieldsList-turn (YieldsList-from_vec {s = c.into_iter-held-iterator.result} c.args.objects.items
    c.into_iter-held-iterator.ensures.into_iter_gives.0
    (c.into_iter-held-iterator.ensures.into_iter_gives.1 ∙ c.args.objects.ok.0))
    c.loop-held.yielded c.loop-held.held-iterator c.loop-held.yielded_by c.next.result c.next.new.self c.in-Some.held
    c.in-Some.is c.next.ensures.steps in
    let next : yielded ++ held ∷ [] ≡ take (suc i) items =
    ap (λ (ys : List (ℕ × Object)). ys ++ held ∷ []) c.loop-held.invariant.prefix
    ∙ (ap (λ (x : ℕ × Object). take i items ++ x ∷ []) turn.1 ∙ sym (take-suc items i held turn.0)) in
    let more : suc i ≡ length (yielded ++ held ∷ []) = omega (arith, length_push yielded held) in
    record {
      pool = c.in_ok-put.ensures
          ∙ ap (λ (r : HeldObjects). record r { objects = r.objects ++ held ∷ [] }) c.loop-held.invariant.pool;
      prefix = next ∙ ap (λ (n : ℕ). take n items) more;
    }

pub returns : goal.returns
returns c =
    let end = YieldsList-end (YieldsList-from_vec {s = c.into_iter-held-iterator.result} c.args.objects.items
    c.into_iter-held-iterator.ensures.into_iter_gives.0
    (c.into_iter-held-iterator.ensures.into_iter_gives.1 ∙ c.args.objects.ok.0))
    c.loop-held.yielded c.loop-held.held-iterator c.loop-held.yielded_by c.next.result c.next.new.self c.in-None.is
    c.next.ensures.steps in
    c.loop-held.invariant.pool
    ∙ ap (λ (os : List (ℕ × Object)). record { count = c.args.pool.now.count; objects = os })
    (sym (map-id c.loop-held.yielded) ∙ end.0)
