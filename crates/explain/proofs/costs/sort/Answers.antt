use Rattle.std.proofs.Common.{◌≡◌, ap, is_lt, nat_cmp, rules}
use Rattle.std.proofs.lemmas.List.Sorted.{answers_always}
use Rattle.explain.proofs.CostsLemmas.{dearer, dearer_ranks}
use Rattle.explain.proofs.costs.sort.Goals as goal

pub returns-clause-sorted : goal.returns-clause-sorted
returns-clause-sorted c =
    c.in_ok-sort_by.ensures.sorted dearer dearer_ranks
    (answers_always _ _ _
    (λ f a r g h. let is : r ≡ nat_cmp a.1.0.now.cost a.0.now.cost = search rules in ap is_lt is))

pub returns-clause-stable : goal.returns-clause-stable
returns-clause-stable c =
    c.sort_by.ensures.stable dearer dearer_ranks
    (answers_always _ _ _
    (λ f a r g h. let is : r ≡ nat_cmp a.1.0.now.cost a.0.now.cost = search rules in ap is_lt is))
