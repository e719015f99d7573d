use Rattle.std.proofs.Common.{◌≡◌, take, string_bytes}
use Rattle.std.specs.List.{flat_map}
use Rattle.audit.specs.Texts.{line_text}
use Rattle.audit.proofs.lines.audit_text.Given as goal

abbrev pub invariant-loop-place : goal.invariant-loop-place
invariant-loop-place l = string_bytes l.text ≡ flat_map (line_text l.program.family) (take l.place-index l.places)
