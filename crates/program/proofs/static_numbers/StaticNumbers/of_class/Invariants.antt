use Rattle.std.proofs.Common.{◌≡◌, ℕ, ◌<◌, ◌≤◌, length, Some, slice_get}
use Rattle.program.specs.Fields.{static_number_of}
use Rattle.program.proofs.static_numbers.StaticNumbers.of_class.Given as goal

abbrev pub invariant-loop-field : goal.invariant-loop-field
invariant-loop-field l = record {
  few : l.before ≤ l.field-index;
  before : l.before ≡ static_number_of l.file l.field-index;
  count : length l.numbers.items ≡ l.field-index;
  numbers : (k : ℕ) → k < l.field-index → slice_get l.numbers.items k ≡ Some (static_number_of l.file k);
}
