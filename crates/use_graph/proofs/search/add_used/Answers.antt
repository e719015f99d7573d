use Rattle.std.proofs.Common.{◌≤◌, length, arith}
use Rattle.use_graph.specs.steps.Searching.{IsClassBelow}
use Rattle.use_graph.proofs.CollectedLemmas.{collected_more, collected_all}
use Rattle.use_graph.proofs.search.add_used.Goals as goal

pub loop-class-preserved : goal.loop-class-preserved
loop-class-preserved c = record {
  limit = c.add_class.ensures.limit;
  collected = collected_more (IsClassBelow c.args.limit) c.args.classes.now c.args.used.now.items
      c.loop-class.used.items c.add_class.new.used.items c.loop-class.class-index _ c.loop-class-test.true
      c.loop-class.invariant.collected c.in_ok-add_class.ensures.used;
}

pub returns-clause-used : goal.returns-clause-used
returns-clause-used c =
    let whole : length c.args.classes.now ≤ c.loop-class.class-index = omega arith in
    collected_all (IsClassBelow c.args.limit) c.args.classes.now c.args.used.now.items c.loop-class.used.items
    c.loop-class.class-index whole c.loop-class.invariant.collected
