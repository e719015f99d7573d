use Rattle.std.proofs.Common.{◌≡◌, ◌≤◌, true, false, get_or, set, length, ap, subst, arith, refl}
use Rattle.std.proofs.lemmas.Grind.{common_steps}
use Rattle.graph.specs.Seen.{Seen}
use Rattle.graph.proofs.FlagsLemmas.{flag_tells, visited_push, visited_small}
use Rattle.graph.proofs.visited.Visited.add.Goals as goal

pub returns-then-index-clause-ok : goal.returns-then-index-clause-ok
returns-then-index-clause-ok c =
    let read : true ≡ get_or c.self.inside.flags.items c.args.member false = grind (arith, common_steps) in (
      (flag_tells c.self.inside.flags.items c.args.self.now c.self.inside.order.items c.args.member true c.self.view_is
          c.self.invariant read).0 refl,
      refl,
    )

pub returns-clause-small : goal.returns-clause-small
returns-clause-small c =
    let clear : get_or c.self.inside.flags.items c.args.member false ≡ false = grind (arith, common_steps) in
    let limit : length c.self.inside.flags.items ≡ c.args.self.now.limit = ap (λ (s : Seen). s.limit) c.self.view_is in
    visited_small (set c.self.inside.flags.items c.args.member true) c.push.new.self.items
    (visited_push c.self.inside.flags.items c.self.inside.order.items c.push.new.self.items c.args.member
    (omega arith) clear c.in_ok-push.ensures.items c.self.invariant)

pub returns-then-index-clause-small : goal.returns-then-index-clause-small
returns-then-index-clause-small c =
    subst (λ (s : Seen). length s.items ≤ s.limit) c.self.view_is
    (visited_small c.self.inside.flags.items c.self.inside.order.items c.self.invariant)

pub invariant_of-self-2 : goal.invariant_of-self-2
invariant_of-self-2 c =
    let clear : get_or c.self.inside.flags.items c.args.member false ≡ false = grind (arith, common_steps) in
    let limit : length c.self.inside.flags.items ≡ c.args.self.now.limit = ap (λ (s : Seen). s.limit) c.self.view_is in
    visited_push c.self.inside.flags.items c.self.inside.order.items c.push.new.self.items c.args.member
    (omega arith) clear c.in_ok-push.ensures.items c.self.invariant
