use Rattle.std.proofs.Common.{arith, slice_index, rules}
use Rattle.std.specs.List.{Contains}
use Rattle.graph.proofs.DescendingLemmas.{one_more}
use Rattle.graph.proofs.descent.skip.Goals as goal

pub loop-at-preserved : goal.loop-at-preserved
loop-at-preserved c = record {
  bound = omega arith;
  passed = one_more (λ j. Contains c.args.seen.now.items (slice_index c.args.row.now j)) c.loop-at.at
      c.loop-at.invariant.passed (search rules);
}
