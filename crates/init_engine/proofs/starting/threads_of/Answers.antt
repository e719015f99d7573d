use Rattle.init_engine.proofs.StartingLemmas.{starting_more, starting_all}
use Rattle.init_engine.proofs.starting.threads_of.Goals as goal

pub loop-number-preserved : goal.loop-number-preserved
loop-number-preserved c =
    starting_more c.args.classes.now c.loop-number.number _ c.loop-number.threads.items _ _ c.loop-number-test.true
    c.loop-number.invariant c.in_ok-starting.ensures.thread c.in_ok-starting.ensures.number
    c.in_ok-push.ensures.items

pub returns-clause-threads : goal.returns-clause-threads
returns-clause-threads c =
    starting_all c.args.classes.now c.loop-number.number c.loop-number.threads.items c.loop-number.invariant
    c.loop-number-test.false
