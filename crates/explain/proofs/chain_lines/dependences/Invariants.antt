use Rattle.std.proofs.Common.{◌≡◌, take, string_bytes}
use Rattle.explain.specs.Texts.{dependences}
use Rattle.explain.proofs.chain_lines.dependences.Given as goal

abbrev pub invariant-loop-class : goal.invariant-loop-class
invariant-loop-class l = string_bytes l.text ≡ dependences l.family (take l.class-index l.chain)
