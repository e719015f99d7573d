use Rattle.hierarchy.proofs.WordLemmas.{without}
use Rattle.hierarchy.proofs.bits.without.Goals as goal

pub returns : goal.returns
returns c = λ n small. without c.args.word c.args.other n c.ranges.other.fits small
