use Rattle.cli.proofs.RunningLemmas.{stands_there}
use Rattle.cli.proofs.running.what_is_left.Goals as goal

pub returns-clause-stands : goal.returns-clause-stands
returns-clause-stands c =
    stands_there c.args.program.now _ _ _ c.in_ok-world.ensures.world c.in_ok-threads.ensures c.rest-rest.ensures
