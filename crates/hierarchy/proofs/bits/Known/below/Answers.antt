use Rattle.hierarchy.proofs.KnownLemmas.{knows_below}
use Rattle.hierarchy.proofs.bits.Known.below.Goals as goal

pub returns : goal.returns
returns c = λ family declares x d k n small there mine above.
    knows_below family declares d k n x c.args.own c.args.self c.without.result (c.without.ensures n small) there mine
    above
