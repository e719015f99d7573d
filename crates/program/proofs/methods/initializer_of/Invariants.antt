use Rattle.std.proofs.Common.{◌≡◌, drop}
use Rattle.std.specs.List.{position_from}
use Rattle.program.specs.Programs.{is_initializer, initializer_of}
use Rattle.program.proofs.methods.initializer_of.Given as goal

abbrev pub invariant-loop-place : goal.invariant-loop-place
invariant-loop-place l = position_from (is_initializer l.file) l.place (drop l.place l.methods) ≡ initializer_of l.file
