use Rattle.std.proofs.Common.{◌≡◌, map, string_bytes}
use Rattle.std.specs.Str.{encode_utf8_all}
use Rattle.cli.specs.Entries.{slash_of}
use Rattle.cli.proofs.entries.slashed.Given as goal

abbrev pub invariant-loop-character : goal.invariant-loop-character
invariant-loop-character l = string_bytes l.name ≡ encode_utf8_all (map slash_of l.yielded)
