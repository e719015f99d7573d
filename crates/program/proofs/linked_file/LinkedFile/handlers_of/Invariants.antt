use Rattle.std.proofs.Common.{take}
use Rattle.std.specs.List.{AllZip}
use Rattle.program.specs.Handlers.{IsHandler}
use Rattle.program.proofs.linked_file.LinkedFile.handlers_of.Given as goal

abbrev pub invariant-loop-entry : goal.invariant-loop-entry
invariant-loop-entry l =
    AllZip (IsHandler l.self.family.now l.self.file.now) (take l.entry-index l.entries) l.handlers.items
