use Rattle.std.proofs.Common.{◌∙◌, ℕ, slice_index, arith, refl}
use Rattle.std.specs.List.{All, Contains}
use Rattle.graph.specs.Rows.{successors_of}
use Rattle.graph.proofs.OrderLemmas.{late_on_cycle, finished_more, after_more}
use Rattle.graph.proofs.arrangement.first_on_cycle.Goals as goal

pub loop-vertex-preserved : goal.loop-vertex-preserved
loop-vertex-preserved c =
    let graph = c.args.graph.now in
    let order = c.args.order.now in
    let i = c.loop-vertex.vertex-index in
    let v : ℕ = slice_index order i in
    let done : All (Contains c.loop-vertex.finished.items) (successors_of graph v) =
    rw c.successors.ensures.value at c.in-None.ensures in
    record {
      limit = c.in_ok-add-in-None.ensures.limit ∙ c.loop-vertex.invariant.limit;
      same = finished_more order c.loop-vertex.finished.items c.add.new.self.items i v c.in_ok-add-in-None.field-0
          (omega arith) refl c.in_ok-add-in-None.ensures.ok c.loop-vertex.invariant.same;
      after = after_more graph order c.loop-vertex.finished.items i (λ x h. (c.loop-vertex.invariant.same x).0 h) done
          c.loop-vertex.invariant.after;
    }

pub returns-in-Some : goal.returns-in-Some
returns-in-Some c =
    let graph = c.args.graph.now in
    let order = c.args.order.now in
    let i = c.loop-vertex.vertex-index in
    let late = c.in-Some.ensures in
    late_on_cycle graph order c.loop-vertex.finished.items i c.in-Some.field-0 c.requires.after (omega arith)
    (λ x h. (c.loop-vertex.invariant.same x).1 h)
    (rw c.successors.ensures.value at late.0) late.1
