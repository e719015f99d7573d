use Rattle.inspection.specs.steps.Best.{IsBest}
use Rattle.inspection.proofs.largest.greatest.Given as goal

abbrev pub invariant-loop-place : goal.invariant-loop-place
invariant-loop-place l = IsBest l.sizes l.place l.best
