use Rattle.std.proofs.Common.{◌≡◌, drop}
use Rattle.std.specs.List.{position_from}
use Rattle.program.specs.Programs.{is_main, main_of}
use Rattle.program.proofs.methods.main_of.Given as goal

abbrev pub invariant-loop-place : goal.invariant-loop-place
invariant-loop-place l = position_from (is_main l.file) l.place (drop l.place l.methods) ≡ main_of l.file
