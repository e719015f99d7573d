use Rattle.machine.specs.Linked.{program_of}
use Rattle.init_engine.proofs.SliceLemmas.{runs_ahead}
use Rattle.init_engine.proofs.world.World.run_alone.Goals as goal

pub returns-clause-ahead : goal.returns-clause-ahead
returns-clause-ahead c =
    runs_ahead (program_of c.args.program.now) c.args.thread c.args.steps c.args.bytes c.in_ok-made.made
    c.run_alone.new.text c.args.self.now c.run_alone.new.world c.in_ok-made.ensures.run c.in_ok-made.ensures.most
    c.in_ok-made.ensures.prints c.in_ok-made.ensures.whole
