use Rattle.std.proofs.Common.{take}
use Rattle.program.proofs.StaticNumbersLemmas.{HaveStaticNumbers}
use Rattle.program.proofs.assembly.static_numbers_of.Given as goal

abbrev pub invariant-loop-given : goal.invariant-loop-given
invariant-loop-given l = HaveStaticNumbers (take l.given-index l.classes) l.numbers.items
