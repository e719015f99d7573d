use Rattle.std.proofs.Common.{◌≡◌, string_bytes, take}
use Rattle.std.specs.List.{flat_map}
use Rattle.inspection.specs.Texts.{hex_of}
use Rattle.inspection.proofs.digest.digest_text.Given as goal

abbrev pub invariant-loop-byte : goal.invariant-loop-byte
invariant-loop-byte l = string_bytes l.text ≡ flat_map hex_of (take l.byte-index l.digest)
