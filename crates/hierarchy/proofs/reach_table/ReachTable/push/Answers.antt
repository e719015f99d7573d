use Rattle.std.proofs.Common.{◌≡◌, ◌<◌, Some, List, cond, length, slice_get, refl, ap, ◌∙◌}
use Rattle.std.proofs.lemmas.Option.{slice_get_read}
use Rattle.hierarchy.specs.steps.MemberKeys.{same_key}
use Rattle.hierarchy.specs.steps.Reaches.{noted_in, number_in}
use Rattle.hierarchy.specs.declared.reach_table.Reach.{Reach}
use Rattle.hierarchy.proofs.ReachTableLemmas.{noted_by_key}
use Rattle.hierarchy.proofs.reach_table.ReachTable.push.Goals as goal

pub returns-clause-rows : goal.returns-clause-rows
returns-clause-rows c = λ k.
    let table = c.number_of.new.self in
    let rows = table.rows.items in
    let key = c.args.key in
    let number = c.in_ok-number.number in
    let old = c.index_mut.result.now in
    let there : number_in table key ≡ Some number = c.in_ok-number.ensures.number in
    let within : number < length rows = c.in_ok-number.ensures.table.within key number there in
    let item : slice_get rows number ≡ Some old =
    slice_get_read rows (length rows) number old refl within c.index_mut.ensures.value in
    noted_by_key (number_in table) rows key number old c.push_reach.new.row c.args.reach there item
    c.in_ok-number.ensures.table.apart c.in_ok-push_reach.ensures k
    ∙ ap (λ (l : List Reach). cond (same_key key k) (noted_in l c.args.reach) l) (c.in_ok-number.ensures.kept k)
