use Rattle.std.proofs.Common.{arith}
use Rattle.object_graph.proofs.CuttingLemmas.{cut_none, cut_more}
use Rattle.object_graph.proofs.cutting.cut_classes.Goals as goal

pub loop-class-init : goal.loop-class-init
loop-class-init c = cut_none c.args.found.now c.args.regions.now

pub loop-class-preserved : goal.loop-class-preserved
loop-class-preserved c =
    cut_more c.args.found.now c.args.regions.now c.loop-class.regions c.cut_class.new.regions c.loop-class.class
    c.loop-class.invariant c.in_ok-cut_class.ensures.cut c.in_ok-cut_class.ensures.other

pub returns-clause-cut : goal.returns-clause-cut
returns-clause-cut c d low = c.loop-class.invariant.cut d (omega (arith, low))

pub returns-clause-other : goal.returns-clause-other
returns-clause-other c d past = c.loop-class.invariant.other d (omega (arith, past))
