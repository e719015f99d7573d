use Rattle.explain.specs.steps.Roots.{AreRoots}
use Rattle.explain.proofs.blamed.roots_of.Given as goal

abbrev pub invariant-loop : goal.invariant-loop
invariant-loop l = AreRoots l.verdicts l.roots.items
