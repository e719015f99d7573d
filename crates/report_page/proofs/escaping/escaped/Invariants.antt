use Rattle.std.proofs.Common.{◌≡◌, length, take, string_bytes}
use Rattle.std.specs.List.{flat_map}
use Rattle.std.specs.Str.{chars}
use Rattle.report_page.specs.Escapes.{escape}
use Rattle.report_page.proofs.escaping.escaped.Given as goal

abbrev pub invariant-loop-character : goal.invariant-loop-character
invariant-loop-character l = string_bytes l.made ≡ flat_map escape (take (length l.yielded) (chars l.text))
