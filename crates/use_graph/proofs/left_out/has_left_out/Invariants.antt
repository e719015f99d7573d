use Rattle.hierarchy.specs.declared.member.DeclaredMember.{DeclaredMember}
use Rattle.use_graph.specs.Uses.{IsLeftOut}
use Rattle.use_graph.proofs.CollectedLemmas.{EachBefore}
use Rattle.use_graph.proofs.left_out.has_left_out.Given as goal

abbrev pub invariant-loop-method : goal.invariant-loop-method
invariant-loop-method l =
    EachBefore l.methods (λ (y : DeclaredMember). ¬ IsLeftOut l.program y.class y.index) l.method-index
