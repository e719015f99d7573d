use Rattle.std.proofs.Common.{◌≡◌, arith, rules, take}
use Rattle.std.proofs.lemmas.Grind.{common_steps}
use Rattle.std.specs.List.{Contains}
use Rattle.std.proofs.lemmas.List.Elements.{All-more}
use Rattle.graph.proofs.arrangement.first_late.Goals as goal

pub loop-vertex-preserved : goal.loop-vertex-preserved
loop-vertex-preserved c = All-more (Contains c.args.finished.now.items) c.args.row.now c.loop-vertex.vertex-index 0
    (omega arith) c.loop-vertex.invariant (search rules)

pub returns : goal.returns
returns c =
    let e : take c.loop-vertex.vertex-index c.args.row.now ≡ c.args.row.now = grind (arith, common_steps) in
    rw e at c.loop-vertex.invariant
