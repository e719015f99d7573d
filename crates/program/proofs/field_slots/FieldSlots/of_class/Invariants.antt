use Rattle.std.proofs.Common.{◌≡◌, ℕ, ◌<◌, length, Some, slice_get}
use Rattle.program.proofs.FieldSlotsLemmas.{passed}
use Rattle.program.proofs.field_slots.FieldSlots.of_class.Given as goal

abbrev pub invariant-loop-field : goal.invariant-loop-field
invariant-loop-field l = record {
  before : l.before ≡ passed l.file l.first l.field-index;
  count : length l.slots.items ≡ l.field-index;
  slots : (k : ℕ) → k < l.field-index → slice_get l.slots.items k ≡ Some (passed l.file l.first k);
}
