use Rattle.std.proofs.Common.{◌≡◌, string_bytes}
use Rattle.inspection.specs.Texts.{lines_below}
use Rattle.inspection.proofs.lines.class_lines.Given as goal

abbrev pub invariant-loop-class : goal.invariant-loop-class
invariant-loop-class l = string_bytes l.text ≡ lines_below l.image l.class
