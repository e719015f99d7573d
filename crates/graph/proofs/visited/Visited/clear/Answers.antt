use Rattle.std.proofs.Common.{◌<◌, ◌∙◌, false, arith, length}
use Rattle.graph.proofs.FlagsLemmas.{member_is_below, visited_pop}
use Rattle.std.proofs.lemmas.List.Elements.{Contains-push}
use Rattle.std.proofs.lemmas.List.{length-set}
use Rattle.graph.proofs.visited.Visited.clear.Goals as goal

pub index_mut-requires : goal.index_mut-requires
index_mut-requires c =
    let flags = c.loop-member.self-inside.flags.items in
    let order = c.loop-member.self-inside.order.items in
    let below : c.in-Some.member < length flags =
    member_is_below flags order c.in-Some.member c.loop-member.invariant.visited
    (rw c.in-Some.ensures.items (Contains-push c.pop.new.self.items c.in-Some.member)) in
    omega arith

pub loop-member-preserved : goal.loop-member-preserved
loop-member-preserved c =
    let flags = c.loop-member.self-inside.flags.items in
    let order = c.loop-member.self-inside.order.items in
    let below : c.in-Some.member < length flags =
    member_is_below flags order c.in-Some.member c.loop-member.invariant.visited
    (rw c.in-Some.ensures.items (Contains-push c.pop.new.self.items c.in-Some.member)) in
    record {
      limit = length-set flags c.in-Some.member false ∙ c.loop-member.invariant.limit;
      visited = visited_pop flags order c.pop.new.self.items c.in-Some.member below c.in-Some.ensures.items
          c.loop-member.invariant.visited;
    }
