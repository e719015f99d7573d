use Rattle.std.proofs.Common.{◌≡◌, length, take}
use Rattle.std.specs.List.{AllZip}
use Rattle.program.specs.steps.ParsedSignatures.{IsEntry}
use Rattle.program.specs.steps.Sparse.{entries, ArePlaces}
use Rattle.program.proofs.signature.signatures_of.Given as goal

abbrev pub invariant-loop-constant : goal.invariant-loop-constant
invariant-loop-constant l = record {
  places : ArePlaces l.signatures.places.items l.signatures.items.items;
  count : length l.signatures.places.items ≡ l.constant-index;
  each : AllZip IsEntry (take l.constant-index l.constants)
      (entries l.signatures.places.items l.signatures.items.items);
}
