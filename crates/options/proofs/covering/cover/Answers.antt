use Rattle.options.proofs.CoveringLemmas.{covered_more}
use Rattle.options.proofs.covering.cover.Goals as goal

pub returns-then-ends-run : goal.returns-then-ends-run
returns-then-ends-run c = covered_more c.args.ends.now c.args.run c.requires c.if-ends-run.true
