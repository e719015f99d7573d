use Rattle.std.proofs.Common.{◌≡◌, length}
use Rattle.hierarchy.specs.steps.DeclarationBits.{IsMask}
use Rattle.hierarchy.specs.steps.Windows.{NotesFirst}
use Rattle.hierarchy.proofs.windows.note.Given as goal

abbrev pub invariant-loop-place : goal.invariant-loop-place
invariant-loop-place l = record {
  len : length l.own ≡ length l.initial.own;
  mask : IsMask l.declared l.start l.mask;
  noted : NotesFirst l.declared l.start l.place l.own;
}
