use Rattle.std.proofs.Common.{arith}
use Rattle.init_engine.proofs.RoundLemmas.{turns_begin}
use Rattle.init_engine.proofs.turning.Turning.new.Goals as goal

pub returns-clause-begun : goal.returns-clause-begun
returns-clause-begun c = λ P. rw (c.new-2.ensures, c.begin.ensures) (turns_begin P _ _ _)

pub returns-clause-ready : goal.returns-clause-ready
returns-clause-ready c = λ P. rw (c.new-2.ensures, c.begin.ensures) (record {
  within = omega arith;
  bounded = omega arith;
  few = omega arith;
  room = omega (arith, c.ranges.limit.fits);
  keeps = c.new.ensures P;
})
