use Rattle.std.proofs.Common.{arith}
use Rattle.journal.proofs.RunsLemmas.{last_small}
use Rattle.thread_runner.proofs.advance.add_some.Goals as goal

pub unreachable-requires : goal.unreachable-requires
unreachable-requires c =
    c.add_steps.ensures.full c.if-not-add_steps.true
    (omega (arith, last_small c.args.thread c.args.runs.now.items, c.requires.fits))
