use Rattle.std.proofs.Common.{◌≡◌, ℕ, List, slice_index, ap, subst, ◌∙◌, arith}
use Rattle.graph.specs.Rows.{successors_of}
use Rattle.graph.specs.steps.Adds.{Adds}
use Rattle.wave_scheduler.proofs.SpreadingLemmas.{spreading_first, spreading_next, spreading_done}
use Rattle.wave_scheduler.proofs.tainted.add_reached.Goals as goal

pub loop-next-init : goal.loop-next-init
loop-next-init c = record {
  limit = c.add.ensures.limit ∙ c.requires.limit;
  spreading = rw c.len-next.ensures.value
      (spreading_first c.args.graph.now c.args.vertex c.in_ok-add.field-0 c.args.seen.now.items c.add.new.self.items
      c.requires.closed c.in_ok-add.ensures.ok);
}

pub loop-next-preserved : goal.loop-next-preserved
loop-next-preserved c =
    let graph = c.args.graph.now in
    let items = c.loop-next.seen.items in
    let next = c.loop-next.next in
    let here : ℕ = slice_index items next in
    let members : c.successors.result.now ≡ successors_of graph here =
    c.successors.ensures.value ∙ ap (λ (v : ℕ). successors_of graph v) c.at-at.ensures.value in
    let adds : Adds items (successors_of graph here) c.visit.new.seen.items =
    subst (λ (r : List ℕ). Adds items r c.visit.new.seen.items) members c.in_ok-visit.ensures.adds in
    record {
      limit = c.in_ok-visit.ensures.limit ∙ c.loop-next.invariant.limit;
      spreading = spreading_next graph c.args.vertex c.args.seen.now.items items c.visit.new.seen.items next
          c.requires.closed (omega arith) c.loop-next.invariant.spreading adds;
    }

pub returns-clause-members : goal.returns-clause-members
returns-clause-members c =
    spreading_done c.args.graph.now c.args.vertex c.args.seen.now.items c.loop-next.seen.items c.loop-next.next
    (omega arith) c.loop-next.invariant.spreading
