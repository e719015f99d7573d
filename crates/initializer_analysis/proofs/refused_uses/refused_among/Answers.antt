use Rattle.std.proofs.Common.{◌≡◌, Some, arith}
use Rattle.initializer_analysis.specs.steps.RefusedUses.{IsRefusedOf}
use Rattle.initializer_analysis.proofs.LabelsLemmas.{labels_none, labels_more, labels_all}
use Rattle.initializer_analysis.proofs.refused_uses.refused_among.Goals as goal

pub loop-class-init : goal.loop-class-init
loop-class-init c =
    labels_none (IsRefusedOf c.args.refused.now c.args.limit) c.args.classes.now c.none-least.result
    c.none-least.ensures

pub loop-class-preserved : goal.loop-class-preserved
loop-class-preserved c =
    labels_more (IsRefusedOf c.args.refused.now c.args.limit) c.args.classes.now c.loop-class.class-index 0
    (λ e. c.refused_label-label.result ≡ Some e) c.loop-class.least c.of.result c.join-least.result
    c.loop-class-test.true c.loop-class.invariant c.of.ensures c.refused_label-label.ensures c.join-least.ensures

pub returns : goal.returns
returns c =
    labels_all (IsRefusedOf c.args.refused.now c.args.limit) c.args.classes.now c.loop-class.class-index
    c.loop-class.least (omega arith) c.loop-class.invariant
