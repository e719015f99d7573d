use Rattle.std.proofs.Common.{◌≡◌, ℕ, List, None, Some, ◌++◌, get_or, take, refl, sym, ap, subst, ◌∙◌, arith}
use Rattle.std.proofs.lemmas.List.{take_more, get_or_default}
use Rattle.hierarchy.specs.Search.{firsts}
use Rattle.hierarchy.specs.steps.InterfaceOrders.{Gathers}
use Rattle.hierarchy.proofs.FirstsLemmas.{firsts_twice}
use Rattle.hierarchy.proofs.GatheredLemmas.{gathers_none, gathers_more}
use Rattle.hierarchy.proofs.short_orders.gather.Goals as goal

pub loop-interface-init : goal.loop-interface-init
loop-interface-init c = record {
  room = c.forget.ensures.room;
  once = rw c.forget.ensures.left refl;
  gathered = rw c.forget.ensures.left (gathers_none c.args.family.now);
}

pub loop-interface-preserved : goal.loop-interface-preserved
loop-interface-preserved c =
    let family = c.args.family.now in
    let is : List ℕ = c.interfaces-interface-items.result.now in
    let k = c.loop-interface.interface-index in
    let interface : ℕ = get_or is k 0 in
    let seen : List ℕ = c.loop-interface.ascent.left.items in
    let new : List ℕ = c.leave_all.new.self.left.items in
    let list : List ℕ = c.in-Some.list in
    let added : new ≡ firsts (seen ++ list) = c.in_ok-leave_all.ensures.left
    ∙ ap (λ (xs : List ℕ). firsts (seen ++ xs)) c.as_slice.ensures in
    let kept : get_or c.args.rows.now interface None ≡ Some list =
    get_or_default c.args.rows.now interface None c.index-rows-interface.result
    (omega (arith, c.interfaces-interface-items.ensures.within k 0 (omega arith), c.requires.short.count))
    ∙ sym c.index-rows-interface.is ∙ c.in-Some.is in
    record {
      room = record {
        entered = ap (λ s. s.limit) c.in_ok-leave_all.ensures.entered ∙ c.loop-interface.invariant.room.entered;
        left = c.in_ok-leave_all.ensures.left_limit ∙ c.loop-interface.invariant.room.left;
      };
      once = added ∙ sym (ap firsts added ∙ firsts_twice (seen ++ list));
      gathered = subst (λ (xs : List ℕ). Gathers family xs new) (sym (take_more is k 0 (omega arith)))
          (gathers_more family (take k is) seen list new interface c.loop-interface.invariant.gathered
          (c.requires.short.gathered interface list kept) added);
    }
