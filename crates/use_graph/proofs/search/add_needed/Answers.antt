use Rattle.std.proofs.Common.{◌↔◌, ◌⊎◌, ◌≤◌, ◌<◌, ℕ, length, subst, arith}
use Rattle.std.specs.List.{Contains}
use Rattle.use_graph.specs.steps.Searching.{IsNeededAt}
use Rattle.use_graph.proofs.CollectedLemmas.{collected_more, collected_all}
use Rattle.use_graph.proofs.search.add_needed.Goals as goal

pub loop-place-preserved : goal.loop-place-preserved
loop-place-preserved c =
    let low : c.loop-place.place < length c.args.reached.now.items = omega arith in record {
      limit = c.add_needed_at.ensures.limit;
      collected = collected_more (IsNeededAt c.args.graph.now.bodies.items c.args.limit) c.args.reached.now.items
          c.args.used.now.items c.loop-place.used.items c.add_needed_at.new.used.items c.loop-place.place 0 low
          c.loop-place.invariant.collected
          (subst (λ (v : ℕ). (e : ℕ) → Contains c.add_needed_at.new.used.items e ↔ (Contains c.loop-place.used.items e
          ⊎ IsNeededAt c.args.graph.now.bodies.items c.args.limit v e)) c.at.ensures.value
          c.in_ok-add_needed_at.ensures.used);
    }

pub returns-clause-used : goal.returns-clause-used
returns-clause-used c =
    let whole : length c.args.reached.now.items ≤ c.loop-place.place = omega arith in
    collected_all (IsNeededAt c.args.graph.now.bodies.items c.args.limit) c.args.reached.now.items
    c.args.used.now.items c.loop-place.used.items c.loop-place.place whole c.loop-place.invariant.collected
