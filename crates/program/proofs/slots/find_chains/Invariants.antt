use Rattle.std.proofs.Common.{◌≡◌, ℕ, length, take}
use Rattle.std.specs.List.{Contains}
use Rattle.program.specs.InstanceFields.{slots_of}
use Rattle.program.specs.steps.Slots.{IsChain, chain_in}
use Rattle.program.proofs.slots.find_chains.Given as goal

abbrev pub invariant-loop-class : goal.invariant-loop-class
invariant-loop-class l = record {
  count : length l.chains.items ≡ length l.family;
  chains : (c : ℕ) → Contains (take l.class-index l.order) c
      → IsChain l.family (slots_of l.family c) (chain_in l.chains.items c);
}
