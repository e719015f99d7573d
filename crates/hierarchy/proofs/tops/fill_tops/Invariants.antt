use Rattle.std.proofs.Common.{◌≡◌, ℕ, Some, length, take, slice_get}
use Rattle.std.specs.List.{Contains}
use Rattle.built_in.specs.declared.class_id.BuiltIn.{BuiltIn}
use Rattle.hierarchy.specs.steps.Tops.{IsTop}
use Rattle.hierarchy.proofs.tops.fill_tops.Given as goal

-- the classes that came have theirs
abbrev pub invariant-loop-class : goal.invariant-loop-class
invariant-loop-class l = record {
  len : length l.tops.items ≡ length l.family;
  came : (c : ℕ) (b : BuiltIn) → Contains (take l.class-index l.order) c → slice_get l.tops.items c ≡ Some b
      → IsTop l.family c b;
}
