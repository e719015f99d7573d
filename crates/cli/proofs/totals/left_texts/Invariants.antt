use Rattle.std.proofs.Common.{◌≡◌, string_bytes, take}
use Rattle.std.specs.List.{flat_map}
use Rattle.command_line.specs.Requests.{texts}
use Rattle.cli.specs.Totals.{left_text}
use Rattle.cli.proofs.totals.left_texts.Given as goal

abbrev pub invariant-loop-word : goal.invariant-loop-word
invariant-loop-word l = string_bytes l.text ≡ flat_map (left_text l.verdicts) (texts (take l.word-index l.words))
