use Rattle.machine.specs.Linked.{program_of}
use Rattle.region_shape.specs.Regions.{region_of, environment_of}
use Rattle.evaluator.proofs.SettlesLemmas.{settled, stopped}
use Rattle.evaluator.proofs.settling.evaluate.Goals as goal

pub returns-in-Ok-None : goal.returns-in-Ok-None
returns-in-Ok-None c =
    settled (program_of c.args.program.now) (environment_of c.args.regions.now) c.args.class c.args.budget
    (region_of c.in_ok-own.own) (region_of c.run_initializer.new.store.own) c.in_ok-own.ensures
    (rw c.in-Ok-None.field-0-is at c.in-Ok-None.ensures)

pub returns-in-Ok-Some : goal.returns-in-Ok-Some
returns-in-Ok-Some c =
    stopped (program_of c.args.program.now) (environment_of c.args.regions.now) c.args.class c.args.budget
    (region_of c.in_ok-own.own) (region_of c.run_initializer.new.store.own) c.in_ok-own.ensures c.in-Ok-Some.halt
    (rw c.in-Ok-Some.field-0-is at c.in-Ok-Some.ensures)
