use Rattle.std.proofs.Common.{◌≡◌, ◌↔◌, ◌<◌, ◌+◌, ℕ}
use Rattle.hierarchy.specs.steps.DeclarationBits.{Has, HasKey, IsAt, IsCoded}
use Rattle.hierarchy.proofs.masks.Mask.of_key.Given as goal

abbrev pub invariant-loop-bit : goal.invariant-loop-bit
invariant-loop-bit l = record {
  key : l.mask.key ≡ l.fn.key;
  same : (n : ℕ) → n < 64 → Has l.mask.same n
      ↔ ((n < l.bit) × IsAt l.declared (l.start + n) (HasKey l.fn.key));
  coded : (n : ℕ) → n < 64 → Has l.mask.coded n
      ↔ ((n < l.bit) × IsAt l.declared (l.start + n) (IsCoded l.fn.key));
}
