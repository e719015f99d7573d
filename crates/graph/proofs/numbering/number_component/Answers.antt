use Rattle.std.proofs.Common.{◌≡◌, ℕ, ◌<◌, List, length, subst, arith, slice_index, ap, ◌∙◌}
use Rattle.std.specs.List.{All}
use Rattle.graph.specs.Rows.{successors_of}
use Rattle.graph.specs.steps.Adds.{Adds}
use Rattle.graph.proofs.NumberingLemmas.{gathering_first, gathering_next}
use Rattle.graph.proofs.numbering.number_component.Goals as goal

pub loop-next-init : goal.loop-next-init
loop-next-init c = record {
  limit = c.add.ensures.limit;
  gathering = rw c.len-first.ensures.value
      (gathering_first c.args.back.now c.args.root c.args.seen.now.items c.args.numbers.now c.add.new.self.items
      c.in_ok-add.field-0 c.requires.root c.requires.within c.in_ok-add.ensures.ok);
}

pub loop-next-preserved : goal.loop-next-preserved
loop-next-preserved c =
    let back = c.args.back.now in
    let items = c.loop-next.seen.items in
    let next = c.loop-next.next in
    let here : ℕ = slice_index items next in
    let row : c.successors.result.now ≡ successors_of back here =
    c.successors.ensures.value ∙ ap (λ (v : ℕ). successors_of back v) c.at-vertex.ensures.value in
    let within : All (λ v. v < length back) (successors_of back here) =
    subst (λ (r : List ℕ). All (λ v. v < length back) r) row c.successors.ensures.within in
    let adds : Adds items (successors_of back here) c.visit.new.seen.items =
    subst (λ (r : List ℕ). Adds items r c.visit.new.seen.items) row c.in_ok-visit.ensures.adds in
    record {
      limit = c.in_ok-visit.ensures.limit ∙ c.loop-next.invariant.limit;
      gathering = rw (c.at-vertex.ensures.value, c.len-first.ensures.value)
          (gathering_next back c.args.root c.args.seen.now.items c.args.numbers.now items c.loop-next.numbers
          c.visit.new.seen.items next (omega arith) c.len.ensures.distinct (omega arith) within
          c.loop-next.invariant.gathering adds);
    }
