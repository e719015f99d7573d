use Rattle.explain.proofs.RootsLemmas.{leads_on, roots_set}
use Rattle.explain.proofs.blamed.double.Goals as goal

pub loop-class-preserved : goal.loop-class-preserved
loop-class-preserved c = λ verdicts are.
    let so_far = c.loop-class.invariant verdicts are in
    roots_set verdicts c.loop-class.nexts c.loop-class.class c.root_of-after.result so_far
    (leads_on verdicts c.loop-class.class c.root_of-next.result c.root_of-after.result
    (c.root_of-next.ensures verdicts so_far) (c.root_of-after.ensures verdicts so_far))
