use Rattle.std.proofs.Common.{eqb-true, eq-eqb}
use Rattle.std.proofs.lemmas.Nat.Bits.{shr_and_one}
use Rattle.hierarchy.proofs.bits.has_bit.Goals as goal

pub returns : goal.returns
returns c = rw (shr_and_one c.args.word c.args.bit) (eqb-true _ 1, eq-eqb _ 1)
