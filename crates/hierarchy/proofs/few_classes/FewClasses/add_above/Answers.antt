use Rattle.std.proofs.Common.{◌≤◌, ◌<◌, ℕ, List, length, slice_index, ap, subst, arith}
use Rattle.graph.specs.steps.Adds.{Adds}
use Rattle.loading.specs.Families.{parents_in}
use Rattle.hierarchy.proofs.ClassSetLemmas.{climbing_next, climbing_done}
use Rattle.hierarchy.proofs.few_classes.FewClasses.add_above.Goals as goal

pub loop-next-preserved : goal.loop-next-preserved
loop-next-preserved c =
    let family = c.args.family.now in
    let items = c.loop-next.self in
    let next = c.loop-next.next in
    let small : next < length items = omega (arith, c.loop-next-test.true, ap length c.members.ensures.value) in
    climbing_next family c.args.self.now items c.add_parents.new.self next small c.loop-next.invariant
    (subst (λ (l : List ℕ). Adds items (parents_in family (slice_index l next)) c.add_parents.new.self)
    c.members-in-loop-next.ensures.value (c.add_parents.ensures c.if-not-add_parents.false))

pub returns : goal.returns
returns c = λ _.
    let all : length c.loop-next.self ≤ c.loop-next.next =
    omega (arith, c.loop-next-test.false, ap length c.members.ensures.value) in
    climbing_done c.args.family.now c.args.self.now c.loop-next.self c.loop-next.next all c.loop-next.invariant
