use Rattle.std.proofs.Common.{◌≡◌, ℕ, ◌<◌, length}
use Rattle.program.specs.InstanceFields.{slot_of}
use Rattle.program.specs.steps.Slots.{field_slot_in}
use Rattle.program.proofs.field_slots.field_slots_of.Given as goal

abbrev pub invariant-loop-number : goal.invariant-loop-number
invariant-loop-number l = record {
  count : length l.rows.items ≡ l.number;
  rows : (c : ℕ) → c < l.number → (k : ℕ) → field_slot_in l.rows.items c k ≡ slot_of l.family c k;
}
