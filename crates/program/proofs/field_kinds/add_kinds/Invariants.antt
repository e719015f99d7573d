use Rattle.std.proofs.Common.{◌≡◌, ℕ, ◌<◌, ◌++◌, length, reverse, Some}
use Rattle.program.specs.InstanceFields.{added_slots, slots_of}
use Rattle.program.specs.steps.Slots.{slots_if}
use Rattle.program.proofs.field_kinds.add_kinds.Given as goal

abbrev pub invariant-loop-next : goal.invariant-loop-next
invariant-loop-next l = record {
  kinds : slots_of l.family l.class ≡ slots_if l.family l.next ++ reverse l.kinds.items;
  adds : (d : ℕ) → l.next ≡ Some d → 0 < length (added_slots l.family d);
}

abbrev pub decreases-loop-next : goal.decreases-loop-next
decreases-loop-next l = length (slots_if l.family l.next)
