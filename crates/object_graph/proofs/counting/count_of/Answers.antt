use Rattle.std.proofs.Common.{◌≡◌, ◌∙◌, ℕ, is_some, arith}
use Rattle.std.specs.List.{range_with_len}
use Rattle.std.proofs.lemmas.List.FromFn.{length-range_with_len}
use Rattle.std.proofs.lemmas.List.Sums.{count_by-le-length}
use Rattle.vm_state.specs.Pools.{held_count, pool_by}
use Rattle.vm_state.proofs.HeldCountLemmas.{held_here}
use Rattle.object_graph.proofs.counting.count_of.Goals.{After-len}
use Rattle.object_graph.proofs.counting.count_of.Goals as goal

-- as many as there are in the list
counted : (c : After-len) → c.len.result ≡ held_count (pool_by c.args.objects.now)
counted c = c.len.ensures.all ∙ held_here c.args.objects.now c.len.ensures.ascending

pub overflow_cast-result : goal.overflow_cast-result
overflow_cast-result c =
    let numbers = range_with_len 0 (pool_by c.args.objects.now).count in
    omega (
      arith,
      counted c,
      count_by-le-length (λ (n : ℕ). is_some ((pool_by c.args.objects.now).at n)) numbers,
      length-range_with_len 0 (pool_by c.args.objects.now).count,
      c.requires,
    )

pub returns : goal.returns
returns c = counted c
