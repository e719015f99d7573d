use Rattle.std.proofs.Common.{◌≡◌, ◌<◌, ℕ, length, ap, subst, sym, arith}
use Rattle.std.specs.List.{Contains}
use Rattle.graph.specs.Seen.{Seen}
use Rattle.graph.proofs.FlagsLemmas.{member_is_below}
use Rattle.graph.proofs.visited.Visited.at.Goals as goal

pub returns-clause-below : goal.returns-clause-below
returns-clause-below c =
    let items : c.self.inside.order.items ≡ c.args.self.now.items = ap (λ (s : Seen). s.items) c.self.view_is in
    let limit : length c.self.inside.flags.items ≡ c.args.self.now.limit = ap (λ (s : Seen). s.limit) c.self.view_is in
    let member : Contains c.self.inside.order.items c.index.result.now =
    (c.args.index, omega (arith, ap length items), sym c.index.ensures) in
    subst (λ (n : ℕ). c.index.result.now < n) limit
    (member_is_below c.self.inside.flags.items c.self.inside.order.items c.index.result.now c.self.invariant member)
