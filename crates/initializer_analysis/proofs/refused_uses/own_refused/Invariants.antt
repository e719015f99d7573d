use Rattle.std.proofs.Common.{◌≡◌, length}
use Rattle.initializer_analysis.specs.steps.RefusedUses.{NeedsRefused}
use Rattle.initializer_analysis.proofs.LabelsLemmas.{HasLeastBelow}
use Rattle.initializer_analysis.proofs.refused_uses.own_refused.Given as goal

abbrev pub invariant-loop-vertex : goal.invariant-loop-vertex
invariant-loop-vertex l = record {
  len : length l.own.items ≡ l.vertex;
  below : HasLeastBelow (NeedsRefused l.uses.bodies.items l.refused l.limit) l.vertex l.own.items;
}
