use Rattle.std.proofs.Common.{◌≡◌, ◌≤◌, ◌<◌, ◌∙◌, ℕ, List, length, slice_index, ap, subst, arith}
use Rattle.graph.specs.steps.Adds.{Adds}
use Rattle.loading.specs.Families.{parents_in}
use Rattle.hierarchy.proofs.ClassSetLemmas.{climbing_next, climbing_done}
use Rattle.hierarchy.proofs.class_set.ClassSet.add_above.Goals as goal

pub loop-next-preserved : goal.loop-next-preserved
loop-next-preserved c =
    let family = c.args.family.now in
    let items = c.loop-next.self in
    let next = c.loop-next.next in
    let few : next < length items = omega (arith, c.loop-next-test.true, ap length c.members.ensures.value) in
    let here : c.from-class.result ≡ slice_index items next =
    c.from-class.ensures ∙ ap (λ (l : List ℕ). slice_index l next) c.members-in-loop-next.ensures.value in
    climbing_next family c.args.self.now items c.add_parents.new.self next few c.loop-next.invariant
    (subst (λ (v : ℕ). Adds items (parents_in family v) c.add_parents.new.self) here c.add_parents.ensures.adds)

pub returns : goal.returns
returns c =
    let all : length c.loop-next.self ≤ c.loop-next.next =
    omega (arith, c.loop-next-test.false, ap length c.members.ensures.value) in
    climbing_done c.args.family.now c.args.self.now c.loop-next.self c.loop-next.next all c.loop-next.invariant
