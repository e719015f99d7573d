use Rattle.inspection.specs.steps.Completes.{Completes}
use Rattle.inspection.proofs.largest.largest.Given as goal

abbrev pub invariant-loop : goal.invariant-loop
invariant-loop l = Completes l.most l.sizes l.counter l.left.items l.places.items
