use Rattle.hierarchy.proofs.KnownLemmas.{knows_before}
use Rattle.hierarchy.proofs.bits.Known.before.Goals as goal

pub returns : goal.returns
returns c = λ family declares xs y d k n small first other.
    knows_before family declares d k n xs y c.args.self c.args.other c.without.result (c.without.ensures n small) first
    other
