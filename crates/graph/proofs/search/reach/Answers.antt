use Rattle.std.proofs.Common.{ℕ, ◌↔◌, [], ◌∷◌}
use Rattle.std.specs.List.{Contains}
use Rattle.std.proofs.lemmas.Result.{IfOk-weaker}
use Rattle.graph.specs.Reaches.{Reaches, IsReached}
use Rattle.graph.specs.Seen.{Seen}
use Rattle.graph.proofs.AddsLemmas.{reached_from_one}
use Rattle.graph.proofs.search.reach.Goals as goal

pub returns-clause-members : goal.returns-clause-members
returns-clause-members c =
    let graph = c.args.graph.now in
    let from = c.args.from in
    IfOk-weaker c.reach_all.result
    (λ (seen : Seen). (m : ℕ) → Contains seen.items m ↔ IsReached graph (from ∷ []) m)
    (λ (seen : Seen). (m : ℕ) → Contains seen.items m ↔ Reaches graph from m)
    (λ seen members m. (
      λ h. (reached_from_one graph from m).0 ((members m).0 h),
      λ h. (members m).1 ((reached_from_one graph from m).1 h),
    ))
    c.reach_all.ensures.members
