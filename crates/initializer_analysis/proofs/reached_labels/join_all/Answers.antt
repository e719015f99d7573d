use Rattle.std.proofs.Common.{◌≡◌, ℕ, ◌+◌, ◌-◌, length, subst, ap, arith}
use Rattle.std.proofs.lemmas.List.{length-replicate}
use Rattle.initializer_analysis.specs.steps.LeastReached.{no_labels}
use Rattle.initializer_analysis.specs.steps.Joined.{AreJoinedFrom}
use Rattle.initializer_analysis.proofs.JoinedLemmas.{join_next}
use Rattle.initializer_analysis.proofs.reached_labels.join_all.Goals as goal

pub loop-place-preserved : goal.loop-place-preserved
loop-place-preserved c =
    let graph = c.args.graph.now in
    let parts = c.args.components.now in
    let own = c.args.own.now in
    let table = c.loop-place.table in
    let place : ℕ = c.loop-place.place - 1 in
    let size : length table ≡ length graph =
    omega (arith, ap length c.requires.table, length-replicate (length graph) no_labels) in
    let after : c.loop-place.place ≡ place + 1 = omega arith in
    let joined : AreJoinedFrom graph parts own (place + 1) table =
    subst (λ (p : ℕ). AreJoinedFrom graph parts own p table) after c.loop-place.invariant.joined in
    record {
      small = omega (arith, c.loop-place.invariant.small);
      joined = rw (c.number.ensures, c.order-order.ensures)
          (join_next graph parts own table place c.joined_labels-labels.result c.requires.components c.requires.own
          size (omega (arith, c.loop-place.invariant.small))
          (rw c.order-order.ensures at c.joined_labels-labels.ensures.within) joined
          (rw c.order-order.ensures at c.joined_labels-labels.ensures.least));
    }

pub returns : goal.returns
returns c =
    let end : c.loop-place.place ≡ 0 = omega arith in
    subst (λ (p : ℕ). AreJoinedFrom c.args.graph.now c.args.components.now c.args.own.now p c.loop-place.table) end
    c.loop-place.invariant.joined
