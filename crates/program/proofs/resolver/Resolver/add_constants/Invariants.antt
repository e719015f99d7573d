use Rattle.std.proofs.Common.{◌≡◌, length, take}
use Rattle.std.specs.List.{flat_map}
use Rattle.program.specs.Strings.{string_of}
use Rattle.program.specs.steps.GrowingStrings.{Gains}
use Rattle.program.specs.steps.ResolvedConstants.{AreRuntimeConstants}
use Rattle.program.proofs.resolver.Resolver.add_constants.Given as goal

abbrev pub invariant-loop-index : goal.invariant-loop-index
invariant-loop-index l = record {
  members : l.members ≡ l.initial.members;
  ahead : l.growing.ahead ≡ l.initial.growing.ahead;
  count : length l.growing.pool ≡ l.index;
  pool : AreRuntimeConstants l.self.hierarchy.now.family l.strings l.self.file.now l.growing.pool;
  gains : Gains l.initial.strings (flat_map (string_of l.self.file.now) (take l.index l.constants)) l.strings;
}
