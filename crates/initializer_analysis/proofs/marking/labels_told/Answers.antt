use Rattle.std.proofs.Common.{◌≡◌, Some, arith}
use Rattle.initializer_analysis.specs.steps.Marking.{IsLabelOf}
use Rattle.initializer_analysis.proofs.LabelsLemmas.{labels_none, labels_more, labels_all}
use Rattle.initializer_analysis.proofs.marking.labels_told.Goals as goal

pub loop-item-init : goal.loop-item-init
loop-item-init c = labels_none (IsLabelOf c.args.mark) c.args.told.now c.none-least.result c.none-least.ensures

pub loop-item-preserved : goal.loop-item-preserved
loop-item-preserved c =
    labels_more (IsLabelOf c.args.mark) c.args.told.now c.loop-item.item-index _ (λ l. c.label_of-label.result ≡ Some l)
    c.loop-item.least c.of.result c.join-least.result c.loop-item-test.true c.loop-item.invariant c.of.ensures
    c.label_of-label.ensures c.join-least.ensures

pub returns : goal.returns
returns c =
    labels_all (IsLabelOf c.args.mark) c.args.told.now c.loop-item.item-index c.loop-item.least (omega arith)
    c.loop-item.invariant
