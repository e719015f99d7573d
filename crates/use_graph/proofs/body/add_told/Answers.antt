use Rattle.use_graph.proofs.LeftOutLemmas.{told_both}
use Rattle.use_graph.proofs.body.add_told.Goals as goal

pub returns-clause-told : goal.returns-clause-told
returns-clause-told c =
    told_both c.args.program.now c.args.deed c.in_ok-leaves_out.leaves_out c.args.told.now.items
    c.add_feature.new.told.items c.add_left_out.new.told.items c.in_ok-leaves_out.ensures.answer
    c.in_ok-add_feature.ensures c.in_ok-add_left_out.ensures
