use Rattle.std.proofs.Common.{◌≡◌, ◌∙◌, true, false, sym, subst}
use Rattle.bytecode.specs.declared.placed.Placed.{Placed}
use Rattle.use_graph.proofs.CollectedLemmas.{before_more, before_all}
use Rattle.explain.specs.steps.Callers.{MayCall}
use Rattle.explain.proofs.calls.first_call.Goals as goal

pub loop-item-preserved : goal.loop-item-preserved
loop-item-preserved c =
    before_more c.args.items.now
    (λ (i : Placed). ¬ MayCall c.args.program.now c.args.caller i.instruction c.args.callee)
    c.loop-item.item-index _ c.loop-item-test.true c.loop-item.invariant
    (subst (λ (i : Placed). ¬ MayCall c.args.program.now c.args.caller i.instruction c.args.callee) c.item-item.is
    (λ may. absurd (let yes = c.may_call.ensures.1 may in
    let both : true ≡ false = sym yes ∙ c.if-may_call.false in cc)))

pub returns : goal.returns
returns c =
    before_all c.args.items.now (λ (i : Placed). ¬ MayCall c.args.program.now c.args.caller i.instruction c.args.callee)
    c.loop-item.item-index c.loop-item-test.false c.loop-item.invariant
