use Rattle.std.proofs.Common.{arith, refl}
use Rattle.graph.proofs.AddsLemmas.{adds_more}
use Rattle.hierarchy.proofs.class_set.ClassSet.add_all.Goals as goal

pub loop-class-preserved : goal.loop-class-preserved
loop-class-preserved c =
    adds_more c.add.result c.args.self.now c.args.classes.now c.loop-class.self c.add.new.self
    c.loop-class.class-index _ (omega arith) refl c.loop-class.invariant c.add.ensures
