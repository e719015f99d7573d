use Rattle.hierarchy.proofs.WordLemmas.{first_bit}
use Rattle.hierarchy.proofs.bits.first_bit.Goals as goal

pub returns-clause-some : goal.returns-clause-some
returns-clause-some c = first_bit c.args.word c.if-word-eq0.false c.ranges.word.fits
