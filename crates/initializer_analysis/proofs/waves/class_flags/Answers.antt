use Rattle.std.proofs.Common.{◌≡◌, false, length, replicate, rules}
use Rattle.initializer_analysis.proofs.LabelsOfClassesLemmas.{class_flags_are}
use Rattle.initializer_analysis.proofs.waves.class_flags.Goals as goal

pub returns-in-Ok : goal.returns-in-Ok
returns-in-Ok c =
    let blank : c.in_ok-flags.flags.items ≡ replicate (length c.args.uses.now.calls) false = search rules in
    class_flags_are c.args.uses.now c.args.limit c.in_ok-flags.flags.items c.flag_classes.new.flags.items blank
    c.in-Ok.ensures
