use Rattle.std.proofs.Common.{arith, refl}
use Rattle.hierarchy.proofs.ClassSetLemmas.{adds_next}
use Rattle.hierarchy.proofs.few_classes.FewClasses.add_all.Goals as goal

pub loop-class-preserved : goal.loop-class-preserved
loop-class-preserved c =
    adds_next c.args.self.now c.args.classes.now c.loop-class.self c.add.new.self c.loop-class.class-index _
    (omega arith) refl c.loop-class.invariant (c.add.ensures c.if-not-add.false)
