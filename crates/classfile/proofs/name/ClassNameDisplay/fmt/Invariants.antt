use Rattle.std.proofs.Common.{◌≡◌, ℕ, List, ◌++◌, length}
use Rattle.std.specs.Fmt.{HasWritten, IsPlainFormatter}
use Rattle.classfile.specs.Printing.{printed_units}
use Rattle.classfile.proofs.name.ClassNameDisplay.fmt.Given as goal

abbrev pub invariant-loop-character : goal.invariant-loop-character
invariant-loop-character g l =
    IsPlainFormatter l.fn.formatter
    → (done : List ℕ) × HasWritten g.W.Write.write_str_gives l.fn.formatter done l.formatter
    × (done ++ printed_units l.left ≡ printed_units l.fn.self)

abbrev pub decreases-loop-character : goal.decreases-loop-character
decreases-loop-character g l = length l.left
