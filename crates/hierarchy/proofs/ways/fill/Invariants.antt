use Rattle.std.proofs.Common.{◌≡◌, ℕ, ◌<◌, Option, Some, length, map, take}
use Rattle.hierarchy.specs.steps.DeclarationBits.{AreKnown, IsOwn, own_of}
use Rattle.hierarchy.specs.steps.ParentSteps.{class_of_step}
use Rattle.hierarchy.proofs.ways.fill.Given as goal

abbrev pub invariant-loop-step : goal.invariant-loop-step
invariant-loop-step l = record {
  len : length l.rows ≡ length l.family;
  filled : (declares : ℕ → Option ℕ) (d k n : ℕ) → n < 64 → declares d ≡ Some k
      → ((x : ℕ) → x < length l.family → IsOwn declares x d n (own_of l.own x))
      → AreKnown l.family declares d k n (map class_of_step (take l.step-index l.steps)) l.rows;
}
