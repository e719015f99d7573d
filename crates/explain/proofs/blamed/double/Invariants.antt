use Rattle.std.proofs.Common.{List}
use Rattle.initializer_analysis.specs.declared.verdict.Verdict.{Verdict}
use Rattle.explain.specs.steps.Roots.{AreRoots}
use Rattle.explain.proofs.blamed.double.Given as goal

abbrev pub invariant-loop-class : goal.invariant-loop-class
invariant-loop-class l = (verdicts : List Verdict) → AreRoots verdicts l.initial.nexts → AreRoots verdicts l.nexts
