use Rattle.region_shape.specs.Regions.{region_of, environment_of}
use Rattle.evaluator.proofs.LentLemmas.{leaves_whole}
use Rattle.evaluator.proofs.settling.settle.Goals as goal

pub returns-in-Ok-Settled-clause-whole : goal.returns-in-Ok-Settled-clause-whole
returns-in-Ok-Settled-clause-whole c =
    let settles = rw c.in-Ok-Settled.field-0-is at c.in-Ok-Settled.ensures in
    λ can.
    leaves_whole c.args.program.now c.show_linked.ensures (environment_of c.args.regions.now) c.args.class can
    c.show_from_file.ensures c.args.budget settles.0 (region_of c.in-Ok-Settled.region) settles.1 settles.2
