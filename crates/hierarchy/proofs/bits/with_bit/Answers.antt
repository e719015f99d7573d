use Rattle.hierarchy.proofs.WordLemmas.{one_more_bit}
use Rattle.hierarchy.proofs.bits.with_bit.Goals as goal

pub returns : goal.returns
returns c = one_more_bit c.args.word c.args.bit c.requires
