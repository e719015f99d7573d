use Rattle.bytecode.specs.declared.placed.Placed.{Placed}
use Rattle.use_graph.proofs.CollectedLemmas.{EachBefore}
use Rattle.explain.specs.steps.Callers.{MayCall}
use Rattle.explain.proofs.calls.first_call.Given as goal

abbrev pub invariant-loop-item : goal.invariant-loop-item
invariant-loop-item l =
    EachBefore l.items (λ (i : Placed). ¬ MayCall l.program l.caller i.instruction l.callee) l.item-index
