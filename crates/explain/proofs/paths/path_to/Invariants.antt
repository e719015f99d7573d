use Rattle.hierarchy.specs.declared.member.DeclaredMember.{DeclaredMember}
use Rattle.explain.specs.Paths.{Lead}
use Rattle.explain.specs.steps.Callers.{StandsAt}
use Rattle.explain.proofs.paths.path_to.Given as goal

abbrev pub invariant-loop-callee : goal.invariant-loop-callee
invariant-loop-callee l = record {
  here : StandsAt l.uses.methods l.search.seen.items l.callee.place l.callee.method;
  lead : (y : DeclaredMember) → StandsAt l.uses.methods l.search.seen.items l.place y
      → Lead l.program l.callee.method.class l.callee.method.index y.class y.index l.path.items;
}

abbrev pub decreases-loop-callee : goal.decreases-loop-callee
decreases-loop-callee l = l.callee.place
