use Rattle.std.proofs.Common.{◌≡◌, ℕ, ◌+◌, ◌-◌, length, subst, ap, arith}
use Rattle.std.proofs.lemmas.List.{length-replicate}
use Rattle.initializer_analysis.specs.steps.Raised.{AreRaisedFrom}
use Rattle.initializer_analysis.proofs.RaisedLemmas.{raise_next, raised_none}
use Rattle.initializer_analysis.proofs.flagged_heights.raise_all.Goals as goal

pub loop-place-init : goal.loop-place-init
loop-place-init c = record {
  small = omega (arith, ap length c.order-order.ensures);
  raised = raised_none c.args.graph.now c.args.components.now c.args.flagged.now c.args.heights.now
      (length c.order-order.result.now) c.requires.heights (omega (arith, ap length c.order-order.ensures));
}

pub raised-height-requires-clause-heights : goal.raised-height-requires-clause-heights
raised-height-requires-clause-heights c =
    omega (arith, ap length c.requires.heights, length-replicate {A = ℕ} (length c.args.graph.now) 0)

pub raised-height-requires-clause-room : goal.raised-height-requires-clause-room
raised-height-requires-clause-room c = c.loop-place.invariant.raised.room

pub loop-place-preserved : goal.loop-place-preserved
loop-place-preserved c =
    let graph = c.args.graph.now in
    let parts = c.args.components.now in
    let flagged = c.args.flagged.now in
    let heights = c.loop-place.heights in
    let place : ℕ = c.loop-place.place - 1 in
    let size : length heights ≡ length graph =
    omega (arith, ap length c.requires.heights, length-replicate {A = ℕ} (length graph) 0) in
    let after : c.loop-place.place ≡ place + 1 = omega arith in
    let before : AreRaisedFrom graph parts flagged (place + 1) heights =
    subst (λ (p : ℕ). AreRaisedFrom graph parts flagged p heights) after c.loop-place.invariant.raised in
    record {
      small = omega (arith, c.loop-place.invariant.small);
      raised = rw (c.number.ensures, c.order-order.ensures)
          (raise_next graph parts flagged heights place c.raised-height.result c.requires.components size
          (omega (arith, c.loop-place.invariant.small))
          (rw c.order-order.ensures at c.raised-height.ensures.within) before
          (rw c.order-order.ensures at c.raised-height.ensures.highest));
    }

pub returns : goal.returns
returns c =
    let end : c.loop-place.place ≡ 0 = omega arith in
    subst
    (λ (p : ℕ). AreRaisedFrom c.args.graph.now c.args.components.now c.args.flagged.now p c.loop-place.heights) end
    c.loop-place.invariant.raised
