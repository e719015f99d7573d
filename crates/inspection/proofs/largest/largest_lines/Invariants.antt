use Rattle.std.proofs.Common.{◌≡◌, string_bytes, take}
use Rattle.std.specs.List.{flat_map}
use Rattle.inspection.specs.Texts.{largest_line}
use Rattle.inspection.proofs.largest.largest_lines.Given as goal

abbrev pub invariant-loop-class : goal.invariant-loop-class
invariant-loop-class l = string_bytes l.text ≡ flat_map (largest_line l.image) (take l.class-index l.classes)
