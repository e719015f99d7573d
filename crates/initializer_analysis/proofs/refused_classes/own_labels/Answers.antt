use Rattle.std.proofs.Common.{◌≡◌, length, replicate, rules}
use Rattle.initializer_analysis.specs.steps.LeastReached.{no_labels}
use Rattle.initializer_analysis.proofs.LabelsOfClassesLemmas.{own_labels_are}
use Rattle.initializer_analysis.proofs.refused_classes.own_labels.Goals as goal

pub returns-in-Ok : goal.returns-in-Ok
returns-in-Ok c =
    let blank : c.in_ok-own.own.items ≡ replicate (length c.args.uses.now.calls) no_labels = search rules in
    own_labels_are c.args.uses.now c.args.reasons.now c.args.limit c.in_ok-own.own.items c.add_labels.new.own.items
    blank c.in-Ok.ensures
