use Rattle.std.proofs.Common.{rules, leb, ◌∙◌, ap, subst, sym, List}
use Rattle.std.proofs.lemmas.List.Sorted.{IsPartitionPoint-from_clause}
use Rattle.hierarchy.specs.steps.Reaches.{GoUp, reaching}
use Rattle.hierarchy.specs.declared.reach_table.Reach.{Reach}
use Rattle.hierarchy.proofs.ReachTableLemmas.{reaching_is, parted}
use Rattle.hierarchy.proofs.reach_table.ReachTable.reaching.Goals as goal

pub returns : goal.returns
returns c = λ up.
    let row = c.row-row.result.now in
    let place = c.args.place in
    let rises : GoUp row = subst (λ (r : List Reach). GoUp r) (sym c.row-row.ensures) up in
    let point = IsPartitionPoint-from_clause (λ (r : Reach). leb r.from place) _ _
    c.partition_point-count.ensures.partitioned (parted row place rises) (λ a r q k. search rules) in
    c.last_of.ensures
    ∙ reaching_is row place c.partition_point-count.result c.partition_point-count.ensures.bound point.0 point.1
    ∙ ap (λ (r : List Reach). reaching r place) c.row-row.ensures
