use Rattle.std.proofs.Common.{rules}
use Rattle.init_engine.specs.Starts.{none, many}
use Rattle.init_engine.proofs.starting.check_count.Goals as goal

pub returns-then-count-eq0-clause-fault : goal.returns-then-count-eq0-clause-fault
returns-then-count-eq0-clause-fault c = none (search rules)

pub returns-then-count-gt-MOST-clause-fault : goal.returns-then-count-gt-MOST-clause-fault
returns-then-count-gt-MOST-clause-fault c = many (search rules)
