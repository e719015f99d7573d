use Rattle.std.proofs.Common.{ℕ, List, ◌<◌, ◌↔◌, length, subst, sym}
use Rattle.std.specs.List.{All, Contains}
use Rattle.std.proofs.lemmas.List.Elements.{All-weaker, All-contains_itself}
use Rattle.graph.specs.Reaches.{IsReached}
use Rattle.audit.proofs.ReachLemmas.{are_reached, first_low}
use Rattle.audit.proofs.reaching.reached_by.Goals as goal

pub reach_all-requires : goal.reach_all-requires
reach_all-requires c =
    let from = c.in_ok-from.from.items in
    let graph = c.in_ok-graph.graph in
    subst (λ (l : List ℕ). All (λ (v : ℕ). v < length graph) l) (sym c.deref.ensures.value)
    (All-weaker (Contains from) (λ (v : ℕ). v < length graph)
    (λ v among. first_low c.args.program.now c.args.uses.now graph c.requires c.in_ok-graph.ensures
    c.args.entries.now from c.in_ok-from.ensures v among) from (All-contains_itself from))

pub returns : goal.returns
returns c n m at =
    are_reached c.args.program.now c.args.uses.now c.in_ok-graph.graph c.requires c.in_ok-graph.ensures
    c.args.entries.now c.in_ok-from.from.items c.in_ok-from.ensures c.in_ok-reached.reached.items
    (subst (λ (l : List ℕ). (v : ℕ) → Contains c.in_ok-reached.reached.items v ↔ IsReached c.in_ok-graph.graph l v)
    c.deref.ensures.value c.in_ok-reached.ensures.members) n m at c.method-once.ensures.once
