use Rattle.std.proofs.Common.{◌≤◌, length, arith}
use Rattle.use_graph.specs.steps.Deeds.{IsToldOf}
use Rattle.use_graph.proofs.CollectedLemmas.{collected_more, collected_all}
use Rattle.use_graph.proofs.body.add_all_told.Goals as goal

pub loop-deed-preserved : goal.loop-deed-preserved
loop-deed-preserved c = record {
  known = c.add_told.ensures.known;
  collected = collected_more (IsToldOf c.args.program.now) c.args.deeds.now c.args.told.now.items c.loop-deed.told.items
      c.add_told.new.told.items c.loop-deed.deed-index _ c.loop-deed-test.true c.loop-deed.invariant.collected
      c.in_ok-add_told.ensures.told;
}

pub returns-clause-told : goal.returns-clause-told
returns-clause-told c =
    let whole : length c.args.deeds.now ≤ c.loop-deed.deed-index = omega arith in
    collected_all (IsToldOf c.args.program.now) c.args.deeds.now c.args.told.now.items c.loop-deed.told.items
    c.loop-deed.deed-index whole c.loop-deed.invariant.collected
