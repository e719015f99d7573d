use Rattle.std.proofs.Common.{◌≡◌, ◌++◌, take}
use Rattle.std.specs.List.{flat_map}
use Rattle.image_format.specs.Texts.{given_text}
use Rattle.image_writer.proofs.text.push_files.Given as goal

abbrev pub invariant-loop-given : goal.invariant-loop-given
invariant-loop-given l = l.out.items ≡ l.fn.out.items ++ flat_map given_text (take l.given-index l.classes)
