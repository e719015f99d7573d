use Rattle.std.proofs.Common.{ℕ, ◌<◌, length, get_or, arith, ◌∙◌, subst, sym}
use Rattle.std.specs.List.{Contains}
use Rattle.std.proofs.lemmas.List.{length-set, take_all}
use Rattle.std.proofs.lemmas.Option.{slice_get_within}
use Rattle.hierarchy.specs.steps.Tops.{IsTop}
use Rattle.hierarchy.proofs.TopsLemmas.{above_known, tops_next, parent_of}
use Rattle.hierarchy.proofs.tops.fill_tops.Goals as goal

pub loop-class-preserved : goal.loop-class-preserved
loop-class-preserved c =
    let family = c.args.family.now in
    let order = c.parents_first-order.result.now in
    let k = c.loop-class.class-index in
    let class : ℕ = get_or order k 0 in
    let tops = c.loop-class.tops.items in
    let small : class < length tops =
    omega (arith, c.parents_first-order.ensures.within k 0 (omega arith), c.loop-class.invariant.len) in
    let top : IsTop family class c.top_of-top.result = c.top_of-top.ensures
    (λ d is. rw c.deref.ensures.value (above_known family order tops k c.parents_first-order.ensures (omega arith)
    c.loop-class.invariant.len c.loop-class.invariant.came d is
    (c.requires.within class d (parent_of family class d is)))) in
    record {
      len = length-set tops class c.top_of-top.result ∙ c.loop-class.invariant.len;
      came = tops_next family order tops k c.top_of-top.result (omega arith) small c.loop-class.invariant.came top;
    }

pub returns : goal.returns
returns c = record {
  count = c.loop-class.invariant.len;
  each = λ d b at.
      let order = c.parents_first-order.result.now in
      c.loop-class.invariant.came d b
      (subst (λ l. Contains l d) (sym (take_all c.loop-class.class-index order (omega arith)))
      (c.parents_first-order.ensures.whole d
      (omega (arith, slice_get_within c.loop-class.tops.items d b at, c.loop-class.invariant.len)))) at;
}
